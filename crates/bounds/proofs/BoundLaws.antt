-- The pass over a copy of the held costs is the pass over the held costs. Assumes nothing.
use Rattle.std.proofs.Common.{ℕ, ◌≤◌, ◌≡◌, Bool, false, List, ◌++◌, length, take, drop, ap, ◌∙◌, arith}
use Rattle.costs.specs.Net.{Net, Costs, Sound, costs_of, entries}
use Rattle.costs.specs.Networks.{outline_of}
use Rattle.costs.specs.declared.networks.Network.{Network}
use Rattle.costs.proofs.RowLaws.{scoped_sound}
use Rattle.shifts.specs.declared.moves.Move.{Move}
use Rattle.shifts.specs.declared.sites.Site.{Site}
use Rattle.shifts.specs.Ties.Sites.{net_at, lives}
use Rattle.passes.specs.Passing.{pass}
use Rattle.passes.specs.Doors.{worked_below}
use Rattle.passes.proofs.PassStaysBelow.{pass_stays_below, pass_shifts_below}
use Rattle.passes.proofs.TableLaws.{site_copied}
use Rattle.bounds.specs.declared.noting.Noted.{Noted}
use Rattle.bounds.specs.Ties.Noting.{notes_most, pass_at, TellsPass, TellsWhole}

module _ (site : Site) (held work u : List ℕ) (long : entries (net_at site) ≤ length held) (copied : u ≡ take site.judged.now.entries held ++ drop site.judged.now.entries work) where
  abbrev net : Network
  net = site.judged.now.network.now

  abbrev n : Net
  n = net_at site

  abbrev live : ℕ → ℕ → Bool
  live = lives site

  sound : Sound n
  sound = scoped_sound (outline_of net) net.sizes net.scopes site.judged.now.ready.scoped

  costs : costs_of net.constant u ≡ worked_below (entries n) (costs_of net.constant held) work
  costs = site_copied site net.constant held work u long copied

  constant_is : (r : ℕ) (v : List ℕ) → costs_of r v ≡ (pass n live (costs_of net.constant u)).costs → r ≡ (pass_at site held).costs.constant
  constant_is r v e =
      let all : costs_of r v ≡ worked_below (entries n) (pass_at site held).costs work = e ∙ rw costs (pass_stays_below n live work sound (costs_of net.constant held)) in
      ap (λ (c : Costs). c.constant) all

  shifts_are : (pass n live (costs_of net.constant u)).shifts ≡ (pass_at site held).shifts
  shifts_are = rw costs (pass_shifts_below n live work sound (costs_of net.constant held))

  pub tells_noted : (asked : Bool) (r : Noted) (v : List ℕ) (notes : List Move) → r.count ≤ notes_most → costs_of r.constant v ≡ (pass n live (costs_of net.constant u)).costs → take r.count notes ≡ (pass n live (costs_of net.constant u)).shifts
      → TellsPass asked (pass_at site held) notes r
  tells_noted asked r v notes few reached noted = record { few = few; constant = constant_is r.constant v reached; shifts = λ a. noted ∙ shifts_are }

  pub whole_noted : (asked : Bool) (r : Noted) (v : List ℕ) (notes : List Move) → r.count ≤ notes_most → notes_most ≤ length notes → costs_of r.constant v ≡ (pass n live (costs_of net.constant u)).costs → take r.count notes ≡ (pass n live (costs_of net.constant u)).shifts
      → TellsWhole asked (pass_at site held) notes r
  whole_noted asked r v notes few long reached noted = record { told = tells_noted asked r v notes few reached noted; there = omega (arith, few, long) }

  pub tells_unnoted : (asked : Bool) (r : ℕ) (v : List ℕ) (notes : List Move) → asked ≡ false → costs_of r v ≡ (pass n live (costs_of net.constant u)).costs → TellsPass asked (pass_at site held) notes (record { constant = r; count = 0 })
  tells_unnoted asked r v notes unasked reached = record { few = omega arith; constant = constant_is r v reached; shifts = λ a. absurd (let z : ◌≡◌ {A = ℕ} 0 1 = cc in omega arith) }

  pub whole_unnoted : (asked : Bool) (r : ℕ) (v : List ℕ) (notes : List Move) → asked ≡ false → costs_of r v ≡ (pass n live (costs_of net.constant u)).costs → TellsWhole asked (pass_at site held) notes (record { constant = r; count = 0 })
  whole_unnoted asked r v notes unasked reached = record { told = tells_unnoted asked r v notes unasked reached; there = omega arith }

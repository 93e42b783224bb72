-- Ties: the pass's steps on a lent table, with their shifts noted.
use Rattle.std.specs.Prelude.{ℕ, zero, suc, ◌+◌, ◌*◌, ◌≤◌, ◌≡◌, Bool, true, List, [], ◌∷◌, length, take}
use Rattle.costs.specs.Limits.{vars_most, size_most, arity_most, functions_most}
use Rattle.costs.specs.Net.{costs_of}
use Rattle.shifts.specs.declared.moves.Move.{Move}
use Rattle.shifts.specs.declared.moves.Move.TheVariants.{Raise}
use Rattle.shifts.specs.declared.sites.Site.{Site}
use Rattle.shifts.specs.Ties.Sites.{net_at, lives}
use Rattle.bounds.specs.declared.noting.Noted.{Noted}
use Rattle.passes.specs.Passing.{Work, pass}

-- the most shifts that a pass makes at one function, and in all
abbrev pub scope_notes : ℕ
scope_notes = arity_most * size_most

abbrev pub notes_most : ℕ
notes_most = functions_most * scope_notes + vars_most

-- the raise by an amount, if above 0
abbrev pub raised : ℕ → ℕ → List Move
raised i zero = []
raised i (suc m) = Raise i (suc m) ∷ []

-- the costs stand in a constant and the table t, the shifts so far are the first `count` of the notes
pub record Stands (w : Work) (constant : ℕ) (t : List ℕ) (notes : List Move) (count : ℕ) : Type 0 where
  pub costs : w.costs ≡ costs_of constant t
  pub shifts : w.shifts ≡ take count notes

-- the step leads from such work to such work; it leaves the constant alone
abbrev pub Leads : (Work → Work) → List ℕ → List Move → ℕ → List ℕ → List Move → ℕ → Type 0
Leads step t notes count t' notes' count' = (constant : ℕ) (w : Work) → Stands w constant t notes count → Stands (step w) constant t' notes' count'

-- one that moves the constant
abbrev pub LeadsOn : (Work → Work) → ℕ → List ℕ → List Move → ℕ → ℕ → List ℕ → List Move → ℕ → Type 0
LeadsOn step constant t notes count constant' t' notes' count' = (w : Work) → Stands w constant t notes count → Stands (step w) constant' t' notes' count'

-- the pass at a node, from held costs
abbrev pub pass_at : Site → List ℕ → Work
pass_at site held = pass (net_at site) (lives site) (costs_of site.judged.now.network.now.constant held)

-- what the code tells of a pass: its constant, and where a record is asked for its shifts
pub record TellsPass (asked : Bool) (w : Work) (notes : List Move) (r : Noted) : Type 0 where
  pub few : r.count ≤ notes_most
  pub constant : r.constant ≡ w.costs.constant
  pub shifts : asked ≡ true → take r.count notes ≡ w.shifts

-- and it counts no more notes than there are: where no record is asked for, the lent list may be empty
pub record TellsWhole (asked : Bool) (w : Work) (notes : List Move) (r : Noted) : Type 0 where
  pub told : TellsPass asked w notes r
  pub there : r.count ≤ length notes

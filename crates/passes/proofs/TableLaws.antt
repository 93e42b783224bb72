-- The costs of a table that is copied into. Assumes nothing.
use Rattle.std.proofs.Common.{ℕ, ◌≤◌, ◌≡◌, List, ◌++◌, length, get_or, take, drop, refl, ap, ◌∙◌, arith, lt-ltb, le-ltb}
use Rattle.std.proofs.Math.Decide.{dec_lt}
use Rattle.tables.proofs.TableLaws.{copied_at, copied_past}
use Rattle.costs.specs.Net.{costs_of, entries}
use Rattle.boxes.proofs.PlaceLaws.{costs-same}
use Rattle.shifts.specs.declared.sites.Site.{Site}
use Rattle.shifts.specs.Ties.Sites.{net_at}
use Rattle.passes.specs.Doors.{worked_below}

pub copied_costs : (s t u : List ℕ) (n constant : ℕ) → n ≤ length s → u ≡ take n s ++ drop n t → costs_of constant u ≡ worked_below n (costs_of constant s) t
copied_costs s t u n constant h e = costs-same _ _ refl (λ j. ap (λ (l : List ℕ). get_or l j 0) e ∙ elim (dec_lt j n) [
  | yes l ↦ rw (lt-ltb j n l) (copied_at s t n j h l)
  | no l ↦ rw (le-ltb j n (omega (arith, l))) (copied_past s t n j h (omega (arith, l)))
])

pub site_copied : (site : Site) (constant : ℕ) (held work u : List ℕ) → entries (net_at site) ≤ length held → u ≡ take site.judged.now.entries held ++ drop site.judged.now.entries work
    → costs_of constant u ≡ worked_below (entries (net_at site)) (costs_of constant held) work
site_copied site constant held work u long copied = rw site.judged.now.whole at (copied_costs held work u site.judged.now.entries constant (rw site.judged.now.whole long) copied)

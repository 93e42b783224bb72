use Prim.Native.Nat.{ℕ, ◌≤◌, ◌<◌, ◌*◌}
use mathlib.Core.Path.{◌≡◌}
use lib.ListN.{length, get_or}
use Rattle.costs.specs.Range.{sum_to}
use Rattle.costs.specs.Limits.{vars_most, size_most}
use Rattle.judging.proofs.starts.unary_starts.Given as goal

abbrev pub invariant-loop-v : goal.invariant-loop-v
invariant-loop-v l = (length l.firsts ≡ vars_most) × (l.at ≡ sum_to l.v (λ w. get_or l.sizes w 0)) × (l.at ≤ l.v * size_most) × ((w : ℕ) → w < l.v → get_or l.firsts w 0 ≡ sum_to w (λ x. get_or l.sizes x 0))

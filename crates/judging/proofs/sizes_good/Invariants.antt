use Rattle.std.proofs.Common.{ℕ, ◌≤◌, ◌<◌, get_or}
use Rattle.costs.specs.Limits.{size_most}
use Rattle.judging.proofs.sizes_good.Given as goal

abbrev pub invariant-loop-v : goal.invariant-loop-v
invariant-loop-v l = (w : ℕ) → w < l.v → (1 ≤ get_or l.net.sizes w 0) × (get_or l.net.sizes w 0 ≤ size_most)

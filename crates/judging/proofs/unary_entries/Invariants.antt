use Rattle.std.proofs.Common.{◌≤◌, ◌*◌, ◌≡◌, get_or}
use Rattle.costs.specs.Limits.{size_most}
use Rattle.costs.specs.Range.{sum_to}
use Rattle.judging.proofs.unary_entries.Given as goal

abbrev pub invariant-loop-v : goal.invariant-loop-v
invariant-loop-v l = (l.sum ≡ sum_to l.v (λ w. get_or l.net.sizes w 0)) × (l.sum ≤ l.v * size_most)

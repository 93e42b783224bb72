use Rattle.std.specs.Prelude.{get_or, ◌≡◌, ◌*◌, ◌≤◌}
use Rattle.costs.specs.Range.{sum_to}
use Rattle.costs.specs.Limits.{size_most}
use Rattle.placing.proofs.unary_start.Given as goal

abbrev pub invariant-loop-v : goal.invariant-loop-v
invariant-loop-v l = (l.start ≡ sum_to l.v (λ w. get_or l.sizes w 0)) × (l.start ≤ l.v * size_most)

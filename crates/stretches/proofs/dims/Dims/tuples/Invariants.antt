use Rattle.std.proofs.Common.{◌≡◌, ◌≤◌, ◌*◌, ◌^◌, drop}
use Rattle.costs.specs.Limits.{size_most}
use Rattle.stretches.specs.Sizes.{product}
use Rattle.stretches.proofs.dims.Dims.tuples.Given as goal

abbrev pub invariant-loop-d : goal.invariant-loop-d
invariant-loop-d l = (l.many ≤ size_most ^ l.d-index) × (l.many * product (drop l.d-index l.self.sizes.now) ≡ product l.self.sizes.now)

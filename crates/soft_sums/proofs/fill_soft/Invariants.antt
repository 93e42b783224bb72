use Rattle.std.proofs.Common.{◌≡◌, take}
use Rattle.costs.specs.Range.{list_to}
use Rattle.soft_sums.specs.Soft.{soft_cost}
use Rattle.soft_sums.proofs.fill_soft.Given as goal

abbrev pub invariant-loop-i : goal.invariant-loop-i
invariant-loop-i l = take l.i l.cells ≡ list_to l.i (soft_cost l.top l.soft l.ds.sizes.now)

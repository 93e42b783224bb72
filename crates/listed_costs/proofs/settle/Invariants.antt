use Rattle.std.proofs.Common.{◌≡◌}
use Rattle.stretches.proofs.MapLaws.{reached}
use Rattle.listed_costs.specs.Listed.{settled}
use Rattle.listed_costs.proofs.settle.Given as goal

abbrev pub invariant-loop-cell : goal.invariant-loop-cell
invariant-loop-cell l = l.cells ≡ reached (λ j. settled l.default) l.cell-index l.initial.cells

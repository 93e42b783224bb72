use Rattle.std.proofs.Common.{◌∙◌, rules, tests, arith}
use Rattle.stretches.proofs.MapLaws.{reached_none, reached_more, reached_map}
use Rattle.listed_costs.specs.Listed.{settled}
use Rattle.listed_costs.proofs.settle.Goals.{then-cell, else-cell}
use Rattle.listed_costs.proofs.settle.Goals as goal

pub loop-cell-init : goal.loop-cell-init
loop-cell-init c = reached_none _ _

pub loop-cell-preserved : goal.loop-cell-preserved
unfolding settled
loop-cell-preserved c = elim c.if-cell.branch [
  | then-cell w ↦ w.cells-is ∙ reached_more _ _ _ _ _ c.loop-cell.invariant (search (tests, rules)) c.loop-cell-test.true
  | else-cell w ↦ w.cells-is ∙ reached_more _ _ _ _ _ c.loop-cell.invariant (search (tests, rules)) c.loop-cell-test.true
]

pub returns : goal.returns
returns c = c.loop-cell.invariant ∙ reached_map _ _ _ (omega arith)

use Rattle.std.proofs.Common.{rules, arith, ◌∙◌}
use Rattle.costs.proofs.TestLaws.{no_by, by_leb}
use Rattle.judging.proofs.JudgeLaws.{same_by, joined, by_ranges}
use Rattle.judging.proofs.ranges_good.Goals.{then-net, else-net, then-net-le-COST, else-net-le-COST, then-net-ge1, else-net-ge1}
use Rattle.judging.proofs.ranges_good.Goals as goal

pub returns-then-net-le-VARS : goal.returns-then-net-le-VARS
returns-then-net-le-VARS c = same_by (by_leb _ _) (by_ranges _ _ _ _) (λ l. search rules) (λ h. search rules)

pub returns-else-net-le-VARS : goal.returns-else-net-le-VARS
returns-else-net-le-VARS c = c.if-net-le-VARS.false ∙ no_by (by_ranges _ _ _ _) (λ h. elim c.if-net.branch [
  | then-net w ↦ joined (by_leb _ _) w.value-is c.if-net-le-VARS.false (search rules)
  | else-net w ↦ elim c.if-net-le-COST.branch [
    | then-net-le-COST v ↦ joined (by_leb _ _) v.value-is w.if-net.false (search rules)
    | else-net-le-COST v ↦ elim c.if-net-ge1.branch [
      | then-net-ge1 u ↦ joined (by_leb _ _) u.value-is v.if-net-le-COST.false (search rules)
      | else-net-ge1 u ↦ omega arith
    ]
  ]
])

use native.Mathlib.Omega.{arith}
use borrow.Author.Count.{below_more}
use borrow.Author.Rules.{rules}
use Rattle.costs.proofs.TestLaws.{yes_by, no_by}
use Rattle.shifts.proofs.NodeLaws.{by_bytes}
use Rattle.shifts.proofs.nodes.node_good.Goals as goal

pub returns-then-net-v : goal.returns-then-net-v
returns-then-net-v c = no_by (by_bytes _ _ _) (λ h. omega (arith, h c.loop-v.v (omega arith)))

pub loop-v-preserved : goal.loop-v-preserved
loop-v-preserved c = below_more _ _ c.loop-v.invariant (search rules)

pub returns : goal.returns
returns c = yes_by (by_bytes _ _ _) (λ w l. c.loop-v.invariant w (omega arith))

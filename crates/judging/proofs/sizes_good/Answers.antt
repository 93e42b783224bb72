use Rattle.std.proofs.Common.{arith}
use Rattle.costs.proofs.TestLaws.{yes_by, no_by}
use Rattle.judging.proofs.JudgeLaws.{by_sizes}
use Rattle.judging.proofs.sizes_good.Goals as goal

pub returns-then-size-lt1 : goal.returns-then-size-lt1
returns-then-size-lt1 c = no_by (by_sizes _ _) (λ h. omega (arith, h c.loop-v.v c.loop-v-test.true, c.size-size.ensures, c.then-size-lt1.either))

pub returns : goal.returns
returns c = yes_by (by_sizes _ _) (λ w l. c.loop-v.invariant w (omega arith))

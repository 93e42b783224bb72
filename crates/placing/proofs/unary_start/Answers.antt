use Rattle.std.proofs.Common.{arith}
use Rattle.costs.proofs.RangeLaws.{sum_to_next}
use Rattle.placing.proofs.unary_start.Goals as goal

pub loop-v-preserved : goal.loop-v-preserved
loop-v-preserved c = (rw sum_to_next (omega arith), omega (arith, c.requires.1 c.loop-v.v))

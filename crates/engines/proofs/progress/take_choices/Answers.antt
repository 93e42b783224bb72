use Rattle.std.proofs.Common.{arith, length-set}
use Rattle.costs.proofs.RangeLaws.{filled_more}
use Rattle.engines.specs.Ties.Progressing.{choices}
use Rattle.engines.proofs.progress.take_choices.Goals as goal

pub loop-v-preserved : goal.loop-v-preserved
loop-v-preserved c = (simp length-set c.loop-v.invariant.0, filled_more (choices c.args.node.now) c.loop-v.plan c.loop-v.v _ (omega (arith, c.loop-v.invariant.0, c.requires, c.loop-v-test.true)) c.saturating_sub.ensures c.loop-v.invariant.1)

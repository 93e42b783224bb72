use Rattle.std.proofs.Common.{arith}
use Rattle.boxes.proofs.BoxLaws.{box_least_step}
use Rattle.boxes.proofs.least_row.Goals as goal

pub loop-v-preserved : goal.loop-v-preserved
loop-v-preserved c =
    let s = c.args in
    box_least_step s.at s.x.size s.x.from c.loop-v.v s.top s.table.now _ _ (omega arith) (omega arith) c.loop-v.invariant c.min-least.ensures

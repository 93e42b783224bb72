use Rattle.std.proofs.Common.{◌+◌, [], arith}
use Rattle.boxes.specs.Ties.Boxes.{cells, changes}
use Rattle.boxes.proofs.BoxLaws.{box_on_turn}
use Rattle.boxes.proofs.change_row.Goals as goal

pub loop-v-preserved : goal.loop-v-preserved
loop-v-preserved c =
    let s = c.args in
    box_on_turn [] s.at s.x.size s.x.from c.loop-v.v (s.at + c.loop-v.v) (changes s.change) (cells s.table.now) _ _ (omega arith) (omega arith) (omega arith) c.loop-v.invariant c.change_one.ensures

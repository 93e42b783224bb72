use Rattle.std.proofs.Common.{◌*◌, ◌+◌, [], ◌∷◌, arith}
use Rattle.boxes.specs.Ties.Boxes.{spanned, cells}
use Rattle.boxes.proofs.BoxLaws.{box_least_turn}
use Rattle.boxes.proofs.least_plane.Goals as goal

pub loop-v-preserved : goal.loop-v-preserved
loop-v-preserved c =
    let s = c.args in
    box_least_turn (spanned s.y ∷ []) s.at s.x.size s.x.from c.loop-v.v (s.at + c.loop-v.v * s.y.size) s.top (cells s.table.now) _ _ _
    (omega arith) (omega arith) (omega arith) c.loop-v.invariant c.least_row.ensures c.min-least.ensures

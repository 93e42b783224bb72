use Rattle.std.proofs.Common.{arith}
use Rattle.boxes.specs.Ties.Boxes.{changes}
use Rattle.boxes.proofs.BoxLaws.{box_on_one}
use Rattle.boxes.proofs.change_one.Goals as goal

pub returns : goal.returns
returns c = let s = c.args in rw c.of.ensures (box_on_one s.at (changes s.change) s.table.now (omega arith))

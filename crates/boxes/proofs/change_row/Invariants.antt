use Rattle.std.proofs.Common.{◌≡◌, [], ◌∷◌}
use Rattle.boxes.specs.Ties.Boxes.{span_to, cells, box_on, changes}
use Rattle.boxes.proofs.change_row.Given as goal

abbrev pub invariant-loop-v : goal.invariant-loop-v
invariant-loop-v l = cells l.table ≡ box_on (span_to l.fn.x l.v ∷ []) l.at (changes l.change) (cells l.initial.table)

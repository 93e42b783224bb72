use Rattle.std.proofs.Common.{◌≡◌, [], ◌∷◌}
use Rattle.boxes.specs.Ties.Boxes.{spanned, span_to, cells, box_on, changes}
use Rattle.boxes.proofs.change_plane.Given as goal

abbrev pub invariant-loop-v : goal.invariant-loop-v
invariant-loop-v l = cells l.table ≡ box_on (span_to l.fn.x l.v ∷ spanned l.y ∷ []) l.at (changes l.change) (cells l.initial.table)

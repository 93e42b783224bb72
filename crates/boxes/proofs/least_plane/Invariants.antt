use Rattle.std.proofs.Common.{◌≡◌, [], ◌∷◌}
use Rattle.boxes.specs.Ties.Boxes.{spanned, span_to, cells, box_least}
use Rattle.boxes.proofs.least_plane.Given as goal

abbrev pub invariant-loop-v : goal.invariant-loop-v
invariant-loop-v l = l.least ≡ box_least (span_to l.fn.x l.v ∷ spanned l.y ∷ []) l.at l.top (cells l.table)

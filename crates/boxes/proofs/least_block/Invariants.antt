use Rattle.std.proofs.Common.{◌≡◌, [], ◌∷◌}
use Rattle.boxes.specs.Ties.Boxes.{spanned, span_to, cells, box_least}
use Rattle.boxes.proofs.least_block.Given as goal

abbrev pub invariant-loop-v : goal.invariant-loop-v
invariant-loop-v l = l.least ≡ box_least (span_to l.block.outer l.v ∷ spanned l.block.middle ∷ spanned l.block.inner ∷ []) l.block.at l.top (cells l.table)

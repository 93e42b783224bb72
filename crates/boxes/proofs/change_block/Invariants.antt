use Rattle.std.proofs.Common.{◌≡◌, [], ◌∷◌}
use Rattle.boxes.specs.Ties.Boxes.{spanned, span_to, cells, box_on, changes}
use Rattle.boxes.proofs.change_block.Given as goal

abbrev pub invariant-loop-v : goal.invariant-loop-v
invariant-loop-v l = cells l.table ≡ box_on (span_to l.block.outer l.v ∷ spanned l.block.middle ∷ spanned l.block.inner ∷ []) l.block.at (changes l.change) (cells l.initial.table)

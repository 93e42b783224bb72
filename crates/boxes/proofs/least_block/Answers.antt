use Rattle.std.proofs.Common.{ℕ, ◌*◌, ◌+◌, [], ◌∷◌, sym, ap, arith}
use native.Mathlib.Nat.{mul-one}
use Rattle.boxes.specs.Ties.Boxes.{spanned, cells}
use Rattle.boxes.proofs.BoxLaws.{box_least_turn}
use Rattle.boxes.proofs.least_block.Goals as goal

pub loop-v-preserved : goal.loop-v-preserved
loop-v-preserved c =
    let s = c.args in
    let b = s.block in
    box_least_turn (spanned b.middle ∷ spanned b.inner ∷ []) b.at b.outer.size b.outer.from c.loop-v.v (b.at + c.loop-v.v * (b.middle.size * b.inner.size)) s.top (cells s.table.now) _ _ _
    (omega arith) (omega arith) (ap (λ (w : ℕ). b.at + c.loop-v.v * (b.middle.size * w)) (sym (mul-one b.inner.size))) c.loop-v.invariant c.least_plane.ensures c.min-least.ensures

-- Laws of where a function's costs are put. Assumes nothing.
use Rattle.std.proofs.Common.{arith, ℕ, suc, ◌≡◌, refl, ◌+◌, ◌≤◌, ◌<◌, List, [], ◌∷◌, ◌++◌, length, get_or, take, drop, length-take}
use Rattle.costs.proofs.RangeLaws.{sum_to_mono}
use Rattle.placing.specs.declared.Sheet.{Sheet}
use Rattle.placing.specs.Drafts.{Draft, unary_start, put}
use Rattle.placing.specs.Ties.Sheets.{numbered}
use Rattle.placing.proofs.StretchLaws.{sums_front}

-- a unary stretch lies below the entries so far
pub unary_below : (s : Sheet) (x : ℕ) → x < s.network.vars → unary_start s.network.sizes x + get_or s.network.sizes x 0 ≤ s.entries
unary_below s x l = omega (arith, sum_to_mono (λ v. get_or s.network.sizes v 0) (suc x) s.network.vars l, s.unary)

-- costs past the stretch are not looked at
pub unary_front : (d : Draft) (x : ℕ) (cs rest : List ℕ) → get_or d.net.sizes x 0 ≤ length cs → put d (x ∷ []) (cs ++ rest) ≡ put d (x ∷ []) cs
unary_front d x cs rest h =
    let start = unary_start d.net.sizes x in
    let many = get_or d.net.sizes x 0 in
    rw (sums_front d.net.top (take many (drop start d.table)) cs rest (omega (arith, length-take many (drop start d.table))))

-- two or three variables have a row and a stretch of their own
pub numbered_put : (d : Draft) (xs cs : List ℕ) → 2 ≤ length xs → numbered d xs cs ≡ put d xs cs
numbered_put d [] cs l = absurd (omega arith)
numbered_put d (x ∷ []) cs l = absurd (omega arith)
numbered_put d (x ∷ y ∷ zs) cs l = refl

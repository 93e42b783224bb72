-- A stretch of a table that costs are added to, seen in the table's first E entries. Assumes nothing.
use Rattle.std.proofs.Common.{arith, ℕ, zero, suc, ◌≡◌, refl, sym, ap, ◌∙◌, ◌+◌, ◌≤◌, ◌<◌, List, [], ◌∷◌, ◌++◌, length, get_or, take, drop, set, add_assoc, length-drop, drop-drop, take-take, length-take-le, get_or-drop, add-one, one-add, append-nil, take_all, drop_of_length-le, le_refl}
use Rattle.std.proofs.lemmas.List.{drop-take}
use lib.Seq.{take-append-add}
use Rattle.costs.specs.Cost.{plus}
use Rattle.placing.specs.Drafts.{sums, added_at}

pub sums-length : (top : ℕ) (xs cs : List ℕ) → length (sums top xs cs) ≡ length xs
unfolding sums
sums-length top [] cs = refl
sums-length top (x ∷ xs) cs = ap suc (sums-length top xs (drop 1 cs))

-- costs past the stretch are not looked at
pub sums_front : (top : ℕ) (xs cs rest : List ℕ) → length xs ≤ length cs → sums top xs (cs ++ rest) ≡ sums top xs cs
unfolding sums
sums_front top [] cs rest h = refl
sums_front top (x ∷ xs) [] rest h = absurd (omega arith)
sums_front top (x ∷ xs) (c ∷ cs) rest h = ap (λ (l : List ℕ). plus top x c ∷ l) (sums_front top xs cs rest (omega arith))

-- a front, a stretch and part of what follows
front : (s m n : ℕ) (p zs r : List ℕ) → length p ≡ s → length zs ≡ m → take (s + (m + n)) (p ++ (zs ++ r)) ≡ p ++ (zs ++ take n r)
front s m n p zs r e f = rw (← e, ← f, take-append-add p (zs ++ r) (length zs + n), take-append-add zs r n)

-- costs added to a stretch
added : (top start many n k all : ℕ) (w cs out : List ℕ) → all ≡ start + (many + n) → k ≡ many → all ≤ length w
    → out ≡ take start w ++ (sums top (take k (drop start w)) cs ++ drop k (drop start w)) → take all out ≡ added_at top start many cs (take all w)
added top start many n k all w cs out e f h o =
    let g : take many (drop start (take all w)) ≡ take many (drop start w) =
    rw (e, drop-take start (many + n) w) (take-take many (many + n) (drop start w) (omega arith)) in
    let d : drop (start + many) (take all w) ≡ take n (drop many (drop start w)) =
    rw (e, sym (add_assoc start many n), drop-take (start + many) n w, drop-drop) in
    let l : length (sums top (take many (drop start w)) cs) ≡ many =
    sums-length top (take many (drop start w)) cs ∙ length-take-le many (drop start w) (omega (arith, length-drop start w)) in
    let t : take start (take all w) ≡ take start w = take-take start all w (omega arith) in
    rw (g, d, t, o, f, e) (front start many n (take start w) (sums top (take many (drop start w)) cs) (drop many (drop start w)) (length-take-le start w (omega arith)) l)

-- which is the stretch that it should be
pub stretch_added : (top start many from size n k all : ℕ) (w cs out : List ℕ) → start ≡ from → many ≡ size → all ≡ start + (many + n) → k ≡ many → all ≤ length w
    → out ≡ take start w ++ (sums top (take k (drop start w)) cs ++ drop k (drop start w)) → take all out ≡ added_at top from size cs (take all w)
stretch_added top start many from size n k all w cs out p q e f h o = rw (← p, ← q) (added top start many n k all w cs out e f h o)

-- costs added in place, one store a turn: after i of them
abbrev pub summed : ℕ → ℕ → List ℕ → List ℕ → List ℕ
summed top i l cs = sums top (take i l) cs ++ drop i l

more : (top i : ℕ) (l cs : List ℕ) → i < length l → set (summed top i l cs) i (plus top (get_or (summed top i l cs) i 0) (get_or cs i 0)) ≡ summed top (suc i) l cs
unfolding sums
more top zero [] cs h = absurd (omega arith)
more top zero (x ∷ l) cs h = refl
more top (suc i) [] cs h = absurd (omega arith)
more top (suc i) (x ∷ l) cs h =
    let e : get_or (drop 1 cs) i 0 ≡ get_or cs (suc i) 0 = get_or-drop 1 cs i 0 ∙ rw one-add in
    ap (λ (m : List ℕ). plus top x (get_or cs 0 0) ∷ m) (rw e at (more top i l (drop 1 cs) (omega arith)))

pub summed_more : (top i : ℕ) (l cs c : List ℕ) (v : ℕ) → c ≡ summed top i l cs → v ≡ plus top (get_or c i 0) (get_or cs i 0) → i < length l → set c i v ≡ summed top (i + 1) l cs
summed_more top i l cs c v e f h = rw (f, e, add-one) (more top i l cs h)

pub summed_all : (top : ℕ) (l cs : List ℕ) → summed top (length l) l cs ≡ sums top l cs
summed_all top l cs = rw (take_all (length l) l (le_refl _), drop_of_length-le l (le_refl _), append-nil (sums top l cs))

pub summed_none : (top : ℕ) (l cs : List ℕ) → l ≡ summed top 0 l cs
unfolding sums
summed_none top l cs = refl

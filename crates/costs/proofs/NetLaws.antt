-- Laws of entries, stretches and prices, over any arity. Assumes nothing.
use Rattle.std.proofs.Common.{ℕ, zero, suc, ◌+◌, ◌≤◌, ◌<◌, min, ◌≡◌, refl, List, [], ◌∷◌, ◌++◌, arith, length, get_or}
use lib.Arith.{digits_lt}
use Rattle.costs.specs.Range.{sum_to}
use Rattle.costs.specs.Net.{Net, Costs, Sound, IsPlan, All, tuples, entry, start, entries, touched, price}
use Rattle.costs.proofs.RangeLaws.{sum_to-same, sum_to_mono}
use Rattle.costs.proofs.CostLaws.{plus_to_cap}

pub All-map : {P Q : ℕ → Type 0} → ((v : ℕ) → P v → Q v) → (vs : List ℕ) → All P vs → All Q vs
All-map f [] h = tt
All-map f (v ∷ vs) h = (f v h.0, All-map f vs h.1)

pub All-append : (P : ℕ → Type 0) (xs ys : List ℕ) → All P xs → All P ys → All P (xs ++ ys)
All-append P [] ys h k = k
All-append P (x ∷ xs) ys h k = (h.0, All-append P xs ys h.1 k)

-- what holds of each holds at each place, and the other way round
pub All-at : (P : ℕ → Type 0) (xs : List ℕ) → All P xs → (j : ℕ) → j < length xs → P (get_or xs j 0)
All-at P [] h j l = absurd (omega arith)
All-at P (x ∷ xs) h zero l = h.0
All-at P (x ∷ xs) h (suc j) l = All-at P xs h.1 j (omega arith)

pub All-by : (P : ℕ → Type 0) (xs : List ℕ) → ((j : ℕ) → j < length xs → P (get_or xs j 0)) → All P xs
All-by P [] h = tt
All-by P (x ∷ xs) h = (h 0 (omega arith), All-by P xs (λ j l. h (suc j) (omega arith)))

pub entry_lt : (size p : ℕ → ℕ) (vs : List ℕ) → All (λ v. p v < size v) vs → entry size p vs < tuples size vs
entry_lt size p [] h = omega arith
entry_lt size p (v ∷ vs) h = digits_lt h.0 (entry_lt size p vs h.1)

-- a stretch ends where the next begins, and lies below E
pub start_next : (n : Net) (s : ℕ) → start n s + tuples n.size (n.scope s) ≡ start n (suc s)
start_next n s = refl

pub stretch_below : (n : Net) (s : ℕ) → s < n.parts → start n s + tuples n.size (n.scope s) ≤ entries n
stretch_below n s l = sum_to_mono (λ r. tuples n.size (n.scope r)) (suc s) n.parts l

pub touched_below : (n : Net) → Sound n → (p : ℕ → ℕ) → IsPlan n p → (s : ℕ) → s < n.parts → touched n p s < entries n
touched_below n good p plan s l =
    omega (arith, entry_lt n.size p (n.scope s) (All-map plan.range (n.scope s) (good.known s l)), stretch_below n s l)

-- a variable's own stretch: as long as its size, and touched at its value
pub tuples_unary : (n : Net) → Sound n → (v : ℕ) → v < n.vars → tuples n.size (n.scope v) ≡ n.size v
tuples_unary n good v l = rw (good.unary v l) (omega arith)

pub touched_unary : (n : Net) → Sound n → (p : ℕ → ℕ) (v : ℕ) → v < n.vars → touched n p v ≡ start n v + p v
touched_unary n good p v l = rw (good.unary v l) (omega arith)

-- the price is the capped plain sum
pub price_capped : (n : Net) (c : Costs) (p : ℕ → ℕ) → price n c p ≡ min n.top (c.constant + sum_to n.parts (λ s. c.at (touched n p s)))
unfolding price
price_capped n c p = plus_to_cap n.top c.constant n.parts (λ s. c.at (touched n p s))

-- plans that agree cost the same
entry-same : (size p q : ℕ → ℕ) (vs : List ℕ) → All (λ v. p v ≡ q v) vs → entry size p vs ≡ entry size q vs
entry-same size p q [] h = refl
entry-same size p q (v ∷ vs) h = rw (h.0, entry-same size p q vs h.1)

pub price-same : (n : Net) → Sound n → (c : Costs) (p q : ℕ → ℕ) → ((v : ℕ) → v < n.vars → p v ≡ q v) → price n c p ≡ price n c q
price-same n good c p q h =
    let e = sum_to-same n.parts (λ s. c.at (touched n q s)) (λ s. c.at (touched n p s)) (λ s l. rw (entry-same n.size p q (n.scope s) (All-map h (n.scope s) (good.known s l)))) in
    rw (price_capped n c p, price_capped n c q, e)

-- costs that agree below E price plans alike
pub price_below : (n : Net) → Sound n → (c d : Costs) → c.constant ≡ d.constant → ((j : ℕ) → j < entries n → c.at j ≡ d.at j) → (p : ℕ → ℕ) → IsPlan n p → price n c p ≡ price n d p
price_below n good c d e h p plan =
    let same = sum_to-same n.parts (λ s. d.at (touched n p s)) (λ s. c.at (touched n p s)) (λ s l. h (touched n p s) (touched_below n good p plan s l)) in
    rw (price_capped n c p, price_capped n d p, e, same)

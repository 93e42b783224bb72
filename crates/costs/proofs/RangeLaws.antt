-- Laws of sums, products and tests over the numbers below n. Assumes nothing.
use Rattle.std.proofs.Common.{ℕ, zero, suc, ◌+◌, ◌*◌, ◌≤◌, ◌<◌, ◌≡◌, refl, sym, ap, ◌∙◌, Bool, true, false, cond, ◌≢◌, arith, mul_assoc, mul_comm, mul-le-mul, add-one, T, ltb, ltb→lt, lt→ltb}
use native.Mathlib.Decide.{ℕ_discrete, dec_le}
use lib.Arith.{le-zero}
use mathlib.Core.List.{List}
use lib.ListN.{length, get_or, set}
use lib.Seq.{get_or-set_same, get_or-set_other}
use Rattle.costs.specs.Range.{sum_to, product_to, all_to, first_to}
use Rattle.costs.proofs.TestLaws.{is_true, is_false, not_so, by_all, by_self}

-- at i + 1, as a loop has it
pub sum_to_next : (i : ℕ) (g : ℕ → ℕ) → sum_to (i + 1) g ≡ sum_to i g + g i
sum_to_next i g = rw add-one

pub sum_to-same : (n : ℕ) (g h : ℕ → ℕ) → ((i : ℕ) → i < n → h i ≡ g i) → sum_to n h ≡ sum_to n g
sum_to-same zero g h e = refl
sum_to-same (suc n) g h e = omega (arith, sum_to-same n g h (λ i l. e i (omega arith)), e n (omega arith))

-- two sums that differ at one place only, by what they share
pub sum_to_point : (n i : ℕ) (g h : ℕ → ℕ) → i < n → ((j : ℕ) → j < n → j ≢ i → h j ≡ g j)
    → (x : ℕ) × (sum_to n g ≡ x + g i) × (sum_to n h ≡ x + h i)
sum_to_point zero i g h l e = absurd (omega arith)
sum_to_point (suc n) i g h l e =
    elim (ℕ_discrete i n) [
      | yes q ↦ rw q (sum_to n g, refl, omega (arith, sum_to-same n g h (λ j m. e j (omega arith) (omega arith))))
      | no q ↦
          let r = sum_to_point n i g h (omega arith) (λ j m. e j (omega arith)) in
          (r.0 + g n, omega arith, omega (arith, e n (omega arith) (omega arith)))
    ]

-- two sums that differ at two places only
pub sum_to_two : (n i k : ℕ) (g h : ℕ → ℕ) → i < n → k < n → i ≢ k → ((j : ℕ) → j < n → j ≢ i → j ≢ k → h j ≡ g j)
    → (x : ℕ) × (sum_to n g ≡ x + g i + g k) × (sum_to n h ≡ x + h i + h k)
sum_to_two zero i k g h l m d e = absurd (omega arith)
sum_to_two (suc n) i k g h l m d e =
    elim (ℕ_discrete i n) [
      | yes q ↦
          let r = sum_to_point n k g h (omega arith) (λ j x y. e j (omega arith) (omega arith) y) in
          rw q (r.0, omega arith, omega arith)
      | no q ↦ elim (ℕ_discrete k n) [
        | yes q' ↦
            let r = sum_to_point n i g h (omega arith) (λ j x y. e j (omega arith) y (omega arith)) in
            rw q' (r.0, omega arith, omega arith)
        | no q' ↦
            let r = sum_to_two n i k g h (omega arith) (omega arith) d (λ j x. e j (omega arith)) in
            (r.0 + g n, omega arith, omega (arith, e n (omega arith) (omega arith) (omega arith)))
      ]
    ]

pub sum_to_mono : (g : ℕ → ℕ) (m n : ℕ) → m ≤ n → sum_to m g ≤ sum_to n g
sum_to_mono g m zero l = rw (le-zero l) (omega arith)
sum_to_mono g m (suc n) l = elim (dec_le m n) [ yes q ↦ omega (arith, sum_to_mono g m n q) | no q ↦ rw (only q) (omega arith) ]
  where
    only : ¬ (m ≤ n) → m ≡ suc n
    only q = omega arith

pub product-same : (n : ℕ) (g h : ℕ → ℕ) → ((i : ℕ) → i < n → h i ≡ g i) → product_to n h ≡ product_to n g
product-same zero g h e = refl
product-same (suc n) g h e = rw (product-same n g h (λ i l. e i (omega arith)), e n (omega arith))

-- two products that differ at one place only, by what they share
pub product_point : (n i : ℕ) (g h : ℕ → ℕ) → i < n → ((j : ℕ) → j < n → j ≢ i → h j ≡ g j)
    → (x : ℕ) × (product_to n g ≡ x * g i) × (product_to n h ≡ x * h i)
product_point zero i g h l e = absurd (omega arith)
product_point (suc n) i g h l e =
    elim (ℕ_discrete i n) [
      | yes q ↦ rw q (product_to n g, refl, rw (product-same n g h (λ j m. e j (omega arith) (omega arith))))
      | no q ↦
          let r = product_point n i g h (omega arith) (λ j m. e j (omega arith)) in
          (r.0 * g n, rw r.1 (swap r.0 (g i) (g n)), rw (r.2, e n (omega arith) (omega arith)) (swap r.0 (h i) (g n)))
    ]
  where
    swap : (x y z : ℕ) → x * y * z ≡ x * z * y
    swap x y z = mul_assoc x y z ∙ ap (λ (w : ℕ). x * w) (mul_comm y z) ∙ sym (mul_assoc x z y)

pub product_pos : (n : ℕ) (g : ℕ → ℕ) → ((i : ℕ) → i < n → 0 < g i) → 0 < product_to n g
product_pos zero g h = omega arith
product_pos (suc n) g h = mul-le-mul (product_pos n g (λ i l. h i (omega arith))) (h n (omega arith))

-- a loop of tests: none yet, one more that passes, one that fails
pub all_to_more : (i : ℕ) (t : ℕ → Bool) → all_to i t ≡ true → t i ≡ true → all_to (i + 1) t ≡ true
all_to_more i t e h = rw (add-one, e, h)

pub all_to_fails : (n e : ℕ) (t : ℕ → Bool) → e < n → t e ≡ false → all_to n t ≡ false
all_to_fails n e t l h = is_false (all_to n t) (λ x. not_so h ((by_all n t (λ i. T (t i)) (λ i. by_self (t i))).says x e l))

pub all_to_at : (n e : ℕ) (t : ℕ → Bool) → all_to n t ≡ true → e < n → T (t e)
all_to_at n e t h l = (by_all n t (λ i. T (t i)) (λ i. by_self (t i))).says (rw h tt) e l

-- none so far: the first is still ahead
pub first_to_none : (n : ℕ) (t : ℕ → Bool) → ((a : ℕ) → a < n → t a ≡ false) → first_to n t ≡ n
first_to_none zero t h = refl
first_to_none (suc n) t h =
    rw (first_to_none n t (λ a l. h a (omega arith)), is_false (ltb n n) (λ x. let y = ltb→lt n n x in omega arith), h n (omega arith))

pub first_to_is : (n r : ℕ) (t : ℕ → Bool) → r < n → ((a : ℕ) → a < r → t a ≡ false) → t r ≡ true → first_to n t ≡ r
first_to_is zero r t l h e = absurd (omega arith)
first_to_is (suc n) r t l h e = elim (ℕ_discrete r n) [
  | yes q ↦ rw (first_to_none n t (rw q at h), is_false (ltb n n) (λ x. let y = ltb→lt n n x in omega arith), rw q at e) (sym q)
  | no q ↦ rw (first_to_is n r t (omega arith) h e, is_true (ltb r n) (lt→ltb r n (omega arith)))
]

-- and each before it fails
pub first_to_below : (n : ℕ) (t : ℕ → Bool) (a : ℕ) → a < first_to n t → t a ≡ false
first_to_below zero t a l = absurd (omega arith)
first_to_below (suc n) t a l = go (ltb (first_to n t) n) (lt→ltb (first_to n t) n) (t n) (λ e. e) (first_to_below n t a) l
  where
    go : (b : Bool) → (first_to n t < n → T b) → (c : Bool) → (c ≡ false → t n ≡ false) → (a < first_to n t → t a ≡ false) → a < cond b (first_to n t) (cond c n (suc n)) → t a ≡ false
    go true f c e r m = r m
    go false f true e r m = elim (dec_le (suc a) (first_to n t)) [ yes q ↦ r q | no q ↦ absurd (f (omega arith)) ]
    go false f false e r m = elim (ℕ_discrete a n) [
      | yes q ↦ rw q (e refl)
      | no q ↦ elim (dec_le (suc a) (first_to n t)) [ yes q' ↦ r q' | no q' ↦ absurd (f (omega arith)) ]
    ]

-- and where there is one, it is one
pub first_to_at : (n : ℕ) (t : ℕ → Bool) → first_to n t < n → T (t (first_to n t))
first_to_at zero t l = absurd (omega arith)
first_to_at (suc n) t l = go (ltb (first_to n t) n) (ltb→lt (first_to n t) n) (first_to_at n t) (t n) (λ x. x) l
  where
    go : (b : Bool) → (T b → first_to n t < n) → (first_to n t < n → T (t (first_to n t))) → (c : Bool) → (T c → T (t n)) → cond b (first_to n t) (cond c n (suc n)) < suc n
        → T (t (cond b (first_to n t) (cond c n (suc n))))
    go true f r c e m = r (f tt)
    go false f r true e m = e tt
    go false f r false e m = absurd (omega arith)

pub first_to_some : (n : ℕ) (t : ℕ → Bool) (a : ℕ) → a < n → T (t a) → first_to n t ≤ a
first_to_some n t a l h = elim (dec_le (first_to n t) a) [ yes q ↦ q | no q ↦ absurd (not_so (first_to_below n t a (omega arith)) h) ]

pub all_to-same : (n : ℕ) (t u : ℕ → Bool) → ((i : ℕ) → i < n → t i ≡ u i) → all_to n t ≡ all_to n u
all_to-same zero t u h = refl
all_to-same (suc n) t u h = rw (all_to-same n t u (λ i l. h i (omega arith)), h n (omega arith))

-- a list that holds g below v holds it below v + 1 after one store
pub filled_more : (g : ℕ → ℕ) (l : List ℕ) (v x : ℕ) → v < length l → x ≡ g v → ((w : ℕ) → w < v → get_or l w 0 ≡ g w) → (w : ℕ) → w < v + 1 → get_or (set l v x) w 0 ≡ g w
filled_more g l v x h e f w m = elim (ℕ_discrete w v) [
  | yes q ↦ rw (q, get_or-set_same l v x 0 h) e
  | no q ↦ rw (get_or-set_other l v w x 0 q) (f w (omega arith))
]

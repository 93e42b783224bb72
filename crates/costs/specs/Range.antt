-- Sums, lists and tests over the numbers below n. Each recurses at its end, as a loop runs.
use Rattle.std.specs.Prelude.{ℕ, zero, suc, ◌+◌, ◌*◌, Bool, true, cond, ◌&&◌, List, [], ◌∷◌, ◌++◌, ltb}

-- g 0 + .. + g (n - 1)
abbrev pub sum_to : ℕ → (ℕ → ℕ) → ℕ
sum_to zero g = 0
sum_to (suc n) g = sum_to n g + g n

-- g 0 * .. * g (n - 1)
abbrev pub product_to : ℕ → (ℕ → ℕ) → ℕ
product_to zero g = 1
product_to (suc n) g = product_to n g * g n

-- g 0 ∷ .. ∷ g (n - 1) ∷ []
abbrev pub list_to : ℕ → (ℕ → ℕ) → List ℕ
list_to zero g = []
list_to (suc n) g = list_to n g ++ (g n ∷ [])

-- all of t 0 .. t (n - 1)
abbrev pub all_to : ℕ → (ℕ → Bool) → Bool
all_to zero t = true
all_to (suc n) t = all_to n t && t n

-- the first a below n with t a, or n where there is none
abbrev pub first_to : ℕ → (ℕ → Bool) → ℕ
first_to zero t = 0
first_to (suc n) t = cond (ltb (first_to n t) n) (first_to n t) (cond (t n) n (suc n))

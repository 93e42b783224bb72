-- Loops over the numbers below n. Each recurses at its end, as a loop runs.
use Rattle.std.specs.Prelude.{ℕ, zero, suc, min, Bool, cond}

-- step 0, then step 1, .. step (n - 1)
abbrev pub each_to : {S : Type 0} → (ℕ → S → S) → ℕ → S → S
each_to step zero s = s
each_to step (suc n) s = step n (each_to step n s)

-- the least of these of g 0 .. g (n - 1), and k at most
abbrev pub least_to : ℕ → (ℕ → Bool) → (ℕ → ℕ) → ℕ → ℕ
least_to top these g zero = top
least_to top these g (suc n) = min (least_to top these g n) (cond (these n) (g n) top)

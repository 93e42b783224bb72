-- Laws of a table that is cleared or copied into. Assumes nothing.
use Rattle.std.proofs.Common.{◌≡◌, ℕ, ◌+◌, ◌≤◌, ◌<◌, List, ◌++◌, length, get_or, take, drop, set, replicate, suc, append_assoc, add-one, drop-cons, take-suc, length-take-le, arith}
use lib.Seq.{set_at}
use Rattle.std.proofs.lemmas.Grind.{common_steps}

-- zeros throughout
pub zero_at : (n j : ℕ) → get_or {A = ℕ} (replicate n 0) j 0 ≡ 0
zero_at n j = grind (arith, common_steps)

pub cleared_at : (n : ℕ) (u : List ℕ) → u ≡ replicate n 0 → (j : ℕ) → get_or u j 0 ≡ 0
cleared_at n u e j = grind (arith, zero_at)

-- one more entry copied
pub copied_more : (s t : List ℕ) (i : ℕ) → i < length t → i < length s → set (take i s ++ drop i t) i (get_or s i 0) ≡ take (i + 1) s ++ drop (i + 1) t
copied_more s t i h g =
    rw (add-one, drop-cons t i 0 h, take-suc s i 0 g, append_assoc)
    (set_at (take i s) (get_or t i 0) (drop (suc i) t) (get_or s i 0) i (length-take-le i s (omega arith)))

-- an entry that was copied, and one past those
pub copied_at : (s t : List ℕ) (n j : ℕ) → n ≤ length s → j < n → get_or (take n s ++ drop n t) j 0 ≡ get_or s j 0
copied_at s t n j h l = grind (arith, common_steps)

pub copied_past : (s t : List ℕ) (n j : ℕ) → n ≤ length s → n ≤ j → get_or (take n s ++ drop n t) j 0 ≡ get_or t j 0
copied_past s t n j h l = grind (arith, common_steps)

-- `past p s i` moves on by one where the byte at i passes, and stays where it does not or the text ends. Assumes nothing.
use Rattle.std.proofs.Common.{ℕ, suc, ◌+◌, ◌≤◌, ◌<◌, zero-le, suc-le-suc, ◌≡◌, List, [], ◌∷◌, Bool, true, false, cond, add-zero, add-suc, suc-add, add-one, arith, length, get_or, drop, length-drop, drop_of_length-le, drop-cons}
use Rattle.tokens.specs.Tokens.{lead, past}

module _ (p : ℕ → Bool) (s : List ℕ) (i : ℕ) where
  pub past_end : length s ≤ i → past p s i ≡ i
  unfolding past lead
  past_end h = rw (drop_of_length-le s h) (add-zero i)

  pub past_stop : i < length s → p (get_or s i 0) ≡ false → past p s i ≡ i
  unfolding past lead
  past_stop h e = rw (drop-cons s i 0 h, e) (add-zero i)

  pub past_more : i < length s → p (get_or s i 0) ≡ true → past p s i ≡ past p s (i + 1)
  unfolding past lead
  past_more h e = rw (drop-cons s i 0 h, e, add-one) (omega (arith, add-suc i (lead p (drop (suc i) s)), suc-add i (lead p (drop (suc i) s))))

lead_le : (p : ℕ → Bool) (s : List ℕ) → lead p s ≤ length s
unfolding lead
lead_le p [] = zero-le
lead_le p (b ∷ s) = go (lead_le p s) (p b)
  where
    go : lead p s ≤ length s → (t : Bool) → cond t (suc (lead p s)) 0 ≤ suc (length s)
    go ih true = suc-le-suc ih
    go ih false = zero-le

pub past_from : (p : ℕ → Bool) (s : List ℕ) (i : ℕ) → i ≤ past p s i
unfolding past
past_from p s i = omega arith

-- from within the text it ends within the text
pub past_most : (p : ℕ → Bool) (s : List ℕ) (i : ℕ) → i ≤ length s → past p s i ≤ length s
unfolding past
past_most p s i h = omega (arith, lead_le p (drop i s), length-drop i s)

-- where anything was passed, the end is within the text
pub past_in : (p : ℕ → Bool) (s : List ℕ) (i : ℕ) → i < past p s i → past p s i ≤ length s
unfolding past
past_in p s i h = omega (arith, lead_le p (drop i s), length-drop i s)

-- Laws of ⊕ and ⊖. Assumes nothing.
use Rattle.std.proofs.Common.{ℕ, zero, suc, ◌+◌, ◌-◌, ◌≤◌, ◌<◌, min, ◌≡◌, refl, Bool, true, false, cond, not, ◌⊎◌, inl, inr, ⊎_elim, arith, T, leb, leb→le}
use lib.Dec.{nleb→lt}
use Rattle.costs.specs.Range.{sum_to}
use Rattle.costs.specs.Cost.{plus, minus, plus_to}

pub plus_comm : (top a b : ℕ) → plus top a b ≡ plus top b a
plus_comm top a b = omega arith

pub plus_assoc : (top a b c : ℕ) → plus top (plus top a b) c ≡ plus top a (plus top b c)
plus_assoc top a b c = omega arith

pub plus_mono : (top a b c d : ℕ) → a ≤ c → b ≤ d → plus top a b ≤ plus top c d
plus_mono top a b c d h l = omega arith

pub minus_cases : (top a b : ℕ) → ((top ≤ a) × (minus top a b ≡ top)) ⊎ ((a < top) × (minus top a b ≡ a - b))
unfolding minus
minus_cases top a b = go (leb top a) (leb→le top a) (nleb→lt top a)
  where
    go : (t : Bool) → (T t → top ≤ a) → (T (not t) → a < top) → ((top ≤ a) × (cond t top (a - b) ≡ top)) ⊎ ((a < top) × (cond t top (a - b) ≡ a - b))
    go true f g = inl (f tt, refl)
    go false f g = inr (g tt, refl)

-- a cost that gives stays at most k, as one that takes does
pub minus_most : (top a b : ℕ) → a ≤ top → minus top a b ≤ top
minus_most top a b h = ⊎_elim (λ w. omega arith) (λ w. omega arith) (minus_cases top a b)

-- what one place gives another takes: the capped total stays
pub shift_cap : (top c u a rest : ℕ) → a ≤ c → min top (minus top c a + plus top u a + rest) ≡ min top (c + u + rest)
shift_cap top c u a rest h = ⊎_elim (λ w. omega arith) (λ w. omega arith) (minus_cases top c a)

-- a fold of ⊕ is the capped sum
pub plus_to_cap : (top first n : ℕ) (g : ℕ → ℕ) → plus_to top (plus top 0 first) n g ≡ min top (first + sum_to n g)
plus_to_cap top first zero g = omega arith
plus_to_cap top first (suc n) g = omega (arith, plus_to_cap top first n g)

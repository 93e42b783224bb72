-- Costs under a bound k, called `top` here as in code. Document 01: "costs run from 0 to a bound k, `a ⊕ b = min(k, a + b)`, and `a ⊖ b` is `a - b`, except that `k ⊖ b = k`".
use Rattle.std.specs.Prelude.{ℕ, zero, suc, ◌+◌, ◌-◌, min, cond, leb}

-- a ⊕ b
abbrev pub plus : ℕ → ℕ → ℕ → ℕ
plus top a b = min top (a + b)

-- a ⊖ b
unfoldable pub minus : ℕ → ℕ → ℕ → ℕ
minus top a b = cond (leb top a) top (a - b)

-- first ⊕ g 0 ⊕ .. ⊕ g (n - 1)
abbrev pub plus_to : ℕ → ℕ → ℕ → (ℕ → ℕ) → ℕ
plus_to top first zero g = first
plus_to top first (suc n) g = plus top (plus_to top first n g) (g n)

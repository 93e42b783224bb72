-- Places of a table, and changes at some of them.
use Rattle.std.specs.Prelude.{ℕ, ◌+◌, ◌-◌, Bool, cond, ◌&&◌, leb, ltb}
use Rattle.costs.specs.Cost.{plus, minus}

-- place j is one of these entries, of the stretch of n entries from s on
unfoldable pub in_stretch : ℕ → ℕ → (ℕ → Bool) → ℕ → Bool
in_stretch s n these j = leb s j && (ltb j (s + n) && these (j - s))

-- each place of A is changed
abbrev pub on : (ℕ → Bool) → (ℕ → ℕ) → (ℕ → ℕ) → ℕ → ℕ
on A change t j = cond (A j) (change (t j)) (t j)

-- each place of A is ⊖ m, then each place of B is ⊕ m
abbrev pub moved : ℕ → (ℕ → Bool) → (ℕ → Bool) → ℕ → (ℕ → ℕ) → ℕ → ℕ
moved top A B m t = on B (λ x. plus top x m) (on A (λ x. minus top x m) t)

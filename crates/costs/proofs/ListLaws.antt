-- Laws of lists made from a function. Assumes nothing.
use Rattle.std.proofs.Common.{ℕ, zero, suc, ◌<◌, ◌≡◌, refl, ◌∙◌, [], ◌∷◌, arith, length, get_or, length-append}
use native.Mathlib.Decide.{ℕ_discrete}
use lib.ListN.{get_or-append}
use lib.Seq.{get_or-append_seam}
use Rattle.costs.specs.Range.{list_to}

pub list_length : (n : ℕ) (f : ℕ → ℕ) → length (list_to n f) ≡ n
list_length zero f = refl
list_length (suc n) f = length-append (list_to n f) (f n ∷ []) ∙ omega (arith, list_length n f)

pub list_at : (n : ℕ) (f : ℕ → ℕ) (v : ℕ) → v < n → get_or (list_to n f) v 0 ≡ f v
list_at zero f v l = absurd (omega arith)
list_at (suc n) f v l = elim (ℕ_discrete v n) [
  | yes q ↦ rw q (let e = get_or-append_seam (list_to n f) (f n) [] 0 in rw (list_length n f) at e)
  | no q ↦ get_or-append (list_to n f) (f n ∷ []) 0 v (omega (arith, list_length n f)) ∙ list_at n f v (omega arith)
]

pub list_to-same : (m : ℕ) (f g : ℕ → ℕ) → ((v : ℕ) → v < m → f v ≡ g v) → list_to m f ≡ list_to m g
list_to-same zero f g h = refl
list_to-same (suc m) f g h = rw (list_to-same m f g (λ v l. h v (omega arith)), h m (omega arith))

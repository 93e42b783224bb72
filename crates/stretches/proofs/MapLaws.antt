-- Loops that go through a list in place, one store a turn. Assumes nothing.
use Rattle.std.proofs.Common.{ℕ, zero, suc, ◌+◌, ◌≤◌, ◌<◌, ◌≡◌, List, [], ◌∷◌, length, get_or, set, map, replicate, refl, ap, add-one}
use native.Mathlib.Nat.{le_of_suc-le-suc, not-suc-le-zero}

-- a list with f applied to its first i elements, each with its place
unfoldable pub reached : (ℕ → ℕ → ℕ) → ℕ → List ℕ → List ℕ
reached f zero l = l
reached f (suc i) [] = []
reached f (suc i) (x ∷ l) = f 0 x ∷ reached (λ j. f (suc j)) i l

pub reached_none : (f : ℕ → ℕ → ℕ) (l : List ℕ) → l ≡ reached f 0 l
unfolding reached
reached_none f l = refl

more : (f : ℕ → ℕ → ℕ) (i : ℕ) (l : List ℕ) → i < length l → set (reached f i l) i (f i (get_or (reached f i l) i 0)) ≡ reached f (suc i) l
unfolding reached
more f zero [] h = refl
more f zero (x ∷ l) h = refl
more f (suc i) [] h = refl
more f (suc i) (x ∷ l) h = ap (λ (m : List ℕ). f 0 x ∷ m) (more (λ j. f (suc j)) i l (le_of_suc-le-suc h))

-- a turn, at a value v that is f's
pub reached_more : (f : ℕ → ℕ → ℕ) (i : ℕ) (l c : List ℕ) (v : ℕ) → c ≡ reached f i l → v ≡ f i (get_or c i 0) → i < length l → set c i v ≡ reached f (i + 1) l
reached_more f i l c v e g h = rw (g, e, add-one) (more f i l h)

-- every element, whatever its place
pub reached_map : (f : ℕ → ℕ) (i : ℕ) (l : List ℕ) → length l ≤ i → reached (λ j. f) i l ≡ map f l
unfolding reached
reached_map f zero [] h = refl
reached_map f zero (x ∷ l) h = absurd (not-suc-le-zero h)
reached_map f (suc i) [] h = refl
reached_map f (suc i) (x ∷ l) h = ap (λ (m : List ℕ). f x ∷ m) (reached_map f i l (le_of_suc-le-suc h))

pub map_const : (v : ℕ) (l : List ℕ) → map (λ (x : ℕ). v) l ≡ replicate (length l) v
map_const v [] = refl
map_const v (x ∷ l) = ap (λ (m : List ℕ). v ∷ m) (map_const v l)

-- Laws of loops over the numbers below n. Assumes nothing.
use Rattle.std.proofs.Common.{ℕ, zero, suc, ◌+◌, ◌*◌, ◌≤◌, ◌<◌, ◌≡◌, refl, ◌∙◌, Bool, true, false, cond, arith, suc-mul, add-one, T}
use native.Mathlib.Decide.{ℕ_discrete}
use lib.Arith.{le-zero}
use Rattle.costs.proofs.TestLaws.{is_true}
use Rattle.boxes.specs.Loops.{each_to, least_to}

-- at i + 1, as a loop has it
pub each_to_next : {S : Type 0} (step : ℕ → S → S) (i : ℕ) (s : S) → each_to step (i + 1) s ≡ step i (each_to step i s)
each_to_next step i s = rw add-one

-- what every step keeps is kept
pub each_keeps : {S : Type 0} (P : S → Type 0) (step : ℕ → S → S) (n : ℕ) → ((i : ℕ) → i < n → (x : S) → P x → P (step i x)) → (s : S) → P s → P (each_to step n s)
each_keeps P step zero h s x = x
each_keeps P step (suc n) h s x = h n (omega arith) (each_to step n s) (each_keeps P step n (λ i l. h i (omega arith)) s x)

-- what step b makes true, and every step keeps, is true at the end
pub each_makes : {S : Type 0} (Q : S → Type 0) (step : ℕ → S → S) (b n : ℕ) → b < n → ((x : S) → Q (step b x)) → ((i : ℕ) → i < n → (x : S) → Q x → Q (step i x)) → (s : S) → Q (each_to step n s)
each_makes Q step b zero l make keep s = absurd (omega arith)
each_makes Q step b (suc n) l make keep s = elim (ℕ_discrete b n) [
  | yes q ↦ rw q at (make (each_to step n s))
  | no q ↦ keep n (omega arith) (each_to step n s) (each_makes Q step b n (omega arith) make (λ i m. keep i (omega arith)) s)
]

-- what each step adds at most
pub each_adds : {S : Type 0} (m : S → ℕ) (step : ℕ → S → S) (most n : ℕ) → ((i : ℕ) → i < n → (x : S) → m (step i x) ≤ m x + most) → (s : S) → m (each_to step n s) ≤ m s + n * most
each_adds m step most zero h s = omega arith
each_adds m step most (suc n) h s = omega (arith, suc-mul n most, h n (omega arith) (each_to step n s), each_adds m step most n (λ i l. h i (omega arith)) s)

-- the least is at most k and at most each of these, and no less than what all of these are
pub least_to_cap : (top : ℕ) (these : ℕ → Bool) (g : ℕ → ℕ) (n : ℕ) → least_to top these g n ≤ top
least_to_cap top these g zero = omega arith
least_to_cap top these g (suc n) = omega (arith, least_to_cap top these g n)

pub least_to_le : (top : ℕ) (these : ℕ → Bool) (g : ℕ → ℕ) (n e : ℕ) → e < n → T (these e) → least_to top these g n ≤ g e
least_to_le top these g zero e l t = absurd (omega arith)
least_to_le top these g (suc n) e l t = elim (ℕ_discrete e n) [
  | yes q ↦ rw (q, is_true (these n) (rw q at t)) (omega arith)
  | no q ↦ omega (arith, least_to_le top these g n e (omega arith) t)
]

pub least_to_ge : (top m : ℕ) (these : ℕ → Bool) (g : ℕ → ℕ) (n : ℕ) → m ≤ top → ((e : ℕ) → e < n → T (these e) → m ≤ g e) → m ≤ least_to top these g n
least_to_ge top m these g zero l h = l
least_to_ge top m these g (suc n) l h = omega (arith, least_to_ge top m these g n l (λ e x. h e (omega arith)), go (these n) (h n (omega arith)))
  where
    go : (b : Bool) → (T b → m ≤ g n) → m ≤ cond b (g n) top
    go true f = f tt
    go false f = l

-- steps that do nothing
pub each_idle : {S : Type 0} (step : ℕ → S → S) (m n : ℕ) → m ≤ n → ((i : ℕ) → m ≤ i → i < n → (x : S) → step i x ≡ x) → (s : S) → each_to step n s ≡ each_to step m s
each_idle step m zero l h s = rw (le-zero l)
each_idle step m (suc n) l h s = elim (ℕ_discrete m (suc n)) [
  | yes q ↦ rw q
  | no q ↦ h n (omega arith) (omega arith) (each_to step n s) ∙ each_idle step m n (omega arith) (λ i a b. h i a (omega arith)) s
]

-- what every step keeps between two runs is kept
pub each_related : {S : Type 0} (R : S → S → Type 0) (step : ℕ → S → S) (n : ℕ) → ((i : ℕ) → i < n → (x y : S) → R x y → R (step i x) (step i y)) → (s r : S) → R s r → R (each_to step n s) (each_to step n r)
each_related R step zero h s r x = x
each_related R step (suc n) h s r x = h n (omega arith) (each_to step n s) (each_to step n r) (each_related R step n (λ i l. h i (omega arith)) s r x)

pub least_to-same : (top : ℕ) (these : ℕ → Bool) (g h : ℕ → ℕ) (n : ℕ) → ((e : ℕ) → e < n → g e ≡ h e) → least_to top these g n ≡ least_to top these h n
least_to-same top these g h zero e = refl
least_to-same top these g h (suc n) e = rw (least_to-same top these g h n (λ i l. e i (omega arith)), e n (omega arith))

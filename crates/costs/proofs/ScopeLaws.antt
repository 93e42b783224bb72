-- Laws of a scope as a list, one variable more at a turn of a loop over it. Assumes nothing.
use Rattle.std.proofs.Common.{ℕ, zero, suc, ◌+◌, ◌*◌, ◌^◌, ◌≤◌, ◌<◌, ◌≡◌, List, [], ◌∷◌, length, get_or, drop, sym, ◌∙◌, add-one, arith, drop-cons, mul_assoc, mul-one, add-mul, drop_of_length-le, length-take}
use Rattle.costs.specs.Limits.{size_most}
use Rattle.costs.specs.Net.{All, tuples, entry}
use Rattle.costs.specs.Networks.{in_row, scope_in, Scoped}
use Rattle.costs.proofs.RowLaws.{factor_more, three_most}

-- what holds of each holds of the one at j
pub All-at : (P : ℕ → Type 0) (vs : List ℕ) (j : ℕ) → All P vs → j < length vs → P (get_or vs j 0)
All-at P [] j a l = absurd (omega arith)
All-at P (v ∷ vs) zero a l = a.0
All-at P (v ∷ vs) (suc j) a l = All-at P vs j a.1 (omega arith)

-- a scope has as many variables as its arity at most
pub scope_length : (row : ℕ → ℕ) → length (scope_in row) ≤ row 0
scope_length row = rw length-take (omega arith)

-- a count of tuples, one variable more, and at the end
pub tuples_more : (size : ℕ → ℕ) (vs : List ℕ) (j many s all : ℕ) → j < length vs → s ≡ size (get_or vs j 0) → many * tuples size (drop j vs) ≡ all → many * s * tuples size (drop (j + 1) vs) ≡ all
tuples_more size vs j many s all h q e = rw (add-one, q) (mul_assoc many (size (get_or vs j 0)) (tuples size (drop (suc j) vs)) ∙ (rw (drop-cons vs j 0 h) at e))

pub tuples_done : (size : ℕ → ℕ) (vs : List ℕ) (j many all : ℕ) → length vs ≤ j → many * tuples size (drop j vs) ≡ all → many ≡ all
tuples_done size vs j many all h e = sym (mul-one many) ∙ (rw (drop_of_length-le vs h) at e)

-- an entry, one variable more, and at the end
pub entry_more : (size p : ℕ → ℕ) (vs : List ℕ) (j e s x all : ℕ) → j < length vs → s ≡ size (get_or vs j 0) → x ≡ p (get_or vs j 0) → e * tuples size (drop j vs) + entry size p (drop j vs) ≡ all
    → (e * s + x) * tuples size (drop (j + 1) vs) + entry size p (drop (j + 1) vs) ≡ all
entry_more size p vs j e s x all h es ex q =
    rw (add-one, es, ex) (horner e (size (get_or vs j 0)) (p (get_or vs j 0)) (tuples size (drop (suc j) vs)) (entry size p (drop (suc j) vs)) ∙ (rw (drop-cons vs j 0 h) at q))
  where
    horner : (e s v r x : ℕ) → (e * s + v) * r + x ≡ e * (s * r) + (v * r + x)
    horner e s v r x = omega (arith, add-mul (e * s) v r, mul_assoc e s r)

pub entry_done : (size p : ℕ → ℕ) (vs : List ℕ) (j e all : ℕ) → length vs ≤ j → e * tuples size (drop j vs) + entry size p (drop j vs) ≡ all → e ≡ all
entry_done size p vs j e all h q = let x = rw (drop_of_length-le vs h) at q in omega (arith, x)

-- the variable at j of function f's scope is one of the network's, and its size small
pub variable_known : (vars functions : ℕ) (sizes rows : List ℕ) → Scoped vars functions sizes rows → (f : ℕ) → f < functions → (vs : List ℕ) → vs ≡ scope_in (in_row rows f) → (j : ℕ) → j < length vs
    → get_or vs j 0 < vars
variable_known vars functions sizes rows r f l vs e j h = All-at (λ v. v < vars) vs j (rw e (r.known f l)) h

pub variable_small : (vars functions : ℕ) (sizes rows : List ℕ) → Scoped vars functions sizes rows → (f : ℕ) → f < functions → (vs : List ℕ) → vs ≡ scope_in (in_row rows f) → (j : ℕ) → j < length vs
    → get_or sizes (get_or vs j 0) 0 ≤ size_most
variable_small vars functions sizes rows r f l vs e j h = r.small _ (variable_known vars functions sizes rows r f l vs e j h)

-- the first of its variables have few tuples
pub tuples_few : (vars functions : ℕ) (sizes rows : List ℕ) → Scoped vars functions sizes rows → (f : ℕ) → f < functions → (vs : List ℕ) → vs ≡ scope_in (in_row rows f) → (j many : ℕ) → j < length vs
    → many ≤ size_most ^ j → (many * get_or sizes (get_or vs j 0) 0 ≤ size_most ^ (j + 1)) × (size_most ^ (j + 1) ≤ size_most ^ 3)
tuples_few vars functions sizes rows r f l vs e j many h m =
    let few : length vs ≤ in_row rows f 0 = rw e (scope_length (in_row rows f)) in
    (factor_more size_most j many _ m (variable_small vars functions sizes rows r f l vs e j h), three_most (j + 1) (omega (arith, r.arity_at_most f l)))

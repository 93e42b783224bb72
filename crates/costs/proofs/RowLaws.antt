-- Laws of rows: a scope read place by place, as a loop over its arity has it. Assumes nothing.
use Rattle.std.proofs.Common.{ℕ, zero, suc, ◌+◌, ◌-◌, ◌*◌, ◌^◌, ◌≤◌, ◌<◌, ◌≡◌, refl, ◌∙◌, List, [], ◌∷◌, arith, mul_assoc, add-mul, mul-le-mul, mul-le-mul_left, mul-le-mul_right, suc-mul, pow-suc, add-one, ltb, lt→ltb, ltb→lt, length, get_or, take, drop, length-take}
use native.Mathlib.Decide.{dec_lt}
use native.Mathlib.Nat.{pow-zero, pow-succ', pow-le-pow_right}
use Rattle.costs.specs.Limits.{size_most}
use Rattle.costs.specs.Range.{sum_to}
use Rattle.costs.specs.Net.{Sound, All, tuples, entry, start_of}
use Rattle.costs.specs.Networks.{Outline, in_row, scope_in, scopes_of, sizes_of, function_start, net_of, Scoped}
use Rattle.costs.proofs.TestLaws.{is_true, is_false}
use Rattle.costs.proofs.RangeLaws.{sum_to-same}
use Rattle.costs.proofs.NetLaws.{All-map}

-- what is left of a scope after its first j variables
abbrev pub rest : (ℕ → ℕ) → ℕ → List ℕ
rest row j = drop j (scope_in row)

pub rest_none : (row : ℕ → ℕ) → rest row 0 ≡ scope_in row
rest_none row = refl

pub rest_next : (row : ℕ → ℕ) (j : ℕ) → row 0 ≤ 3 → j < row 0 → rest row j ≡ row (j + 1) ∷ rest row (j + 1)
rest_next row j h l = go (row 0) j h l
  where
    go : (arity j : ℕ) → arity ≤ 3 → j < arity → drop j (take arity (row 1 ∷ row 2 ∷ row 3 ∷ [])) ≡ row (j + 1) ∷ drop (j + 1) (take arity (row 1 ∷ row 2 ∷ row 3 ∷ []))
    go zero j h l = absurd (omega arith)
    go (suc zero) zero h l = refl
    go (suc zero) (suc j) h l = absurd (omega arith)
    go (suc (suc zero)) zero h l = refl
    go (suc (suc zero)) (suc zero) h l = refl
    go (suc (suc zero)) (suc (suc j)) h l = absurd (omega arith)
    go (suc (suc (suc zero))) zero h l = refl
    go (suc (suc (suc zero))) (suc zero) h l = refl
    go (suc (suc (suc zero))) (suc (suc zero)) h l = refl
    go (suc (suc (suc zero))) (suc (suc (suc j))) h l = absurd (omega arith)
    go (suc (suc (suc (suc arity)))) j h l = absurd (omega arith)

-- a test over a function's row holds of each variable that the loop meets
pub rest_all : (P : ℕ → Type 0) (row : ℕ → ℕ) (j : ℕ) → All P (scope_in row) → All P (rest row j)
rest_all P row j h = go j (scope_in row) h
  where
    go : (j : ℕ) (vs : List ℕ) → All P vs → All P (drop j vs)
    go zero vs h = h
    go (suc j) [] h = tt
    go (suc j) (v ∷ vs) h = go j vs h.1

pub met : (P : ℕ → Type 0) (row : ℕ → ℕ) (j : ℕ) → row 0 ≤ 3 → j < row 0 → All P (scope_in row) → P (row (j + 1))
met P row j h l a = let b = rest_all P row j a in (rw (rest_next row j h l) at b).0

-- nothing is left
pub rest_end : (row : ℕ → ℕ) → row 0 ≤ 3 → rest row (row 0) ≡ []
rest_end row h = go (row 0) h
  where
    go : (arity : ℕ) → arity ≤ 3 → drop arity (take arity (row 1 ∷ row 2 ∷ row 3 ∷ [])) ≡ []
    go zero h = refl
    go (suc zero) h = refl
    go (suc (suc zero)) h = refl
    go (suc (suc (suc zero))) h = refl
    go (suc (suc (suc (suc arity)))) h = absurd (omega arith)

-- a count of tuples, one variable more, and at the end
pub tuples_next : (size : ℕ → ℕ) (row : ℕ → ℕ) (j many s v all : ℕ) → row 0 ≤ 3 → j < row 0 → v ≡ row (j + 1) → s ≡ size v → many * tuples size (rest row j) ≡ all
    → many * s * tuples size (rest row (j + 1)) ≡ all
tuples_next size row j many s v all h l e q i =
    rw (q, e) (mul_assoc many (size (row (j + 1))) (tuples size (rest row (j + 1))) ∙ (rw (rest_next row j h l) at i))

pub tuples_end : (size : ℕ → ℕ) (row : ℕ → ℕ) (j many all : ℕ) → row 0 ≤ 3 → j ≡ row 0 → many * tuples size (rest row j) ≡ all → many ≡ all
tuples_end size row j many all h e i = let x = rw (e, rest_end row h) at i in omega (arith, x)

-- an entry, one variable more, and at the end
pub entry_next : (size p : ℕ → ℕ) (row : ℕ → ℕ) (j e s x v all : ℕ) → row 0 ≤ 3 → j < row 0 → v ≡ row (j + 1) → s ≡ size v → x ≡ p v
    → e * tuples size (rest row j) + entry size p (rest row j) ≡ all → (e * s + x) * tuples size (rest row (j + 1)) + entry size p (rest row (j + 1)) ≡ all
entry_next size p row j e s x v all h l ev es ex i =
    rw (es, ex, ev) (horner e (size (row (j + 1))) (p (row (j + 1))) (tuples size (rest row (j + 1))) (entry size p (rest row (j + 1))) ∙ (rw (rest_next row j h l) at i))
  where
    horner : (e s v r x : ℕ) → (e * s + v) * r + x ≡ e * (s * r) + (v * r + x)
    horner e s v r x = omega (arith, add-mul (e * s) v r, mul_assoc e s r)

pub entry_end : (size p : ℕ → ℕ) (row : ℕ → ℕ) (j e all : ℕ) → row 0 ≤ 3 → j ≡ row 0 → e * tuples size (rest row j) + entry size p (rest row j) ≡ all → e ≡ all
entry_end size p row j e all h q i = let x = rw (q, rest_end row h) at i in omega (arith, x)

-- j factors of at most d, and j digits below d
pub factor_more : (d j many s : ℕ) → many ≤ d ^ j → s ≤ d → many * s ≤ d ^ (j + 1)
factor_more d j many s h l = rw (add-one, pow-suc) (mul-le-mul h l)

pub digit_more : (d j e s v : ℕ) → e < d ^ j → s ≤ d → v < s → e * s + v < d ^ (j + 1)
digit_more d j e s v h l m = rw (add-one, pow-suc) (omega (arith, mul-le-mul_left e l, mul-le-mul_right d h, suc-mul e d))

-- what at most three of them reach
pub three_most : (j : ℕ) → j ≤ 3 → size_most ^ j ≤ size_most ^ 3
three_most j l = pow-le-pow_right (omega arith) l

-- a part's scope: a variable's own, and a function's
pub scope_unary : (vars : ℕ) (rows : List ℕ) (v : ℕ) → v < vars → scopes_of vars rows v ≡ v ∷ []
scope_unary vars rows v l = rw (is_true (ltb v vars) (lt→ltb v vars l))

pub scope-function : (vars : ℕ) (rows : List ℕ) (f : ℕ) → scopes_of vars rows (vars + f) ≡ scope_in (in_row rows f)
scope-function vars rows f =
    let e : vars + f - vars ≡ f = omega arith in
    rw (is_false (ltb (vars + f) vars) (λ t. let l = ltb→lt (vars + f) vars t in omega arith), e)

-- what holds of each variable's own scope and of each function's holds of each part's
pub scope_all : (P : List ℕ → Type 0) (vars functions : ℕ) (rows : List ℕ) → ((v : ℕ) → v < vars → P (v ∷ [])) → ((f : ℕ) → f < functions → P (scope_in (in_row rows f)))
    → (s : ℕ) → s < vars + functions → P (scopes_of vars rows s)
scope_all P vars functions rows g h s l = elim (dec_lt s vars) [
  | yes q ↦ rw (scope_unary vars rows s q) (g s q)
  | no q ↦
      let e : vars + (s - vars) ≡ s = omega arith in
      let x = h (s - vars) (omega arith) in
      let y : P (scopes_of vars rows (vars + (s - vars))) = rw (scope-function vars rows (s - vars)) x in
      rw e at y
]

scope_filled : (row : ℕ → ℕ) → 2 ≤ row 0 → 0 < length (scope_in row)
scope_filled row h = go (row 0) h
  where
    go : (arity : ℕ) → 2 ≤ arity → 0 < length (take arity (row 1 ∷ row 2 ∷ row 3 ∷ []))
    go zero h = absurd (omega arith)
    go (suc arity) h = omega arith

-- the judged numbers are a sound network
pub scoped_sound : (o : Outline) (sizes rows : List ℕ) → Scoped o.vars o.functions sizes rows → Sound (net_of o sizes rows)
scoped_sound o sizes rows r = record {
  unary = scope_unary o.vars rows;
  known = scope_all (All (λ v. v < o.vars)) o.vars o.functions rows (λ v l. (l, tt)) r.known;
  enough = omega arith;
  filled = scope_all (λ vs. 0 < length vs) o.vars o.functions rows (λ v l. omega arith) (λ f l. scope_filled (in_row rows f) (r.arity_least f l));
  sized = r.sized;
}

-- the functions begin where the unary stretches end, and each begins where the one before it ends
pub start_unary : (vars : ℕ) (sizes rows : List ℕ) → start_of (sizes_of sizes) (scopes_of vars rows) vars ≡ sum_to vars (sizes_of sizes)
start_unary vars sizes rows = sum_to-same vars (sizes_of sizes) (λ v. tuples (sizes_of sizes) (scopes_of vars rows v)) (λ v l. rw (scope_unary vars rows v l) (omega arith))

pub start-function : (vars : ℕ) (sizes rows : List ℕ) (f : ℕ) → function_start vars sizes rows (f + 1) ≡ function_start vars sizes rows f + tuples (sizes_of sizes) (scope_in (in_row rows f))
start-function vars sizes rows f =
    let e : vars + (f + 1) ≡ suc (vars + f) = omega arith in
    rw (e, scope-function vars rows f)

-- a scope of few variables has few tuples
tuples_power : (size : ℕ → ℕ) (d : ℕ) (vs : List ℕ) → All (λ v. size v ≤ d) vs → tuples size vs ≤ d ^ length vs
tuples_power size d [] h = omega (arith, pow-zero d)
tuples_power size d (v ∷ vs) h = rw pow-succ' (mul-le-mul h.0 (tuples_power size d vs h.1))

pub tuples_most : (vars functions : ℕ) (sizes rows : List ℕ) → Scoped vars functions sizes rows → (f : ℕ) → f < functions → tuples (λ v. get_or sizes v 0) (scope_in (in_row rows f)) ≤ size_most ^ 3
tuples_most vars functions sizes rows r f l =
    let most = tuples_power (λ v. get_or sizes v 0) size_most (scope_in (in_row rows f)) (All-map r.small (scope_in (in_row rows f)) (r.known f l)) in
    omega (arith, most, three_most (length (scope_in (in_row rows f))) (rw length-take (omega (arith, r.arity_at_most f l))))

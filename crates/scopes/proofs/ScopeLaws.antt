-- Laws of `scope`, one turn at a time, and what is known of a scope that was read. Assumes nothing.
use Rattle.std.specs.Prelude.{Result, Ok, Err, T}
use Rattle.std.proofs.Common.{ℕ, zero, suc, ◌+◌, ◌*◌, ◌≤◌, ◌<◌, ◌≡◌, refl, sym, ap, ◌∙◌, List, [], ◌∷◌, ◌++◌, Bool, true, false, not, ◌||◌, add-one, arith, eqb, leb, ltb, length, get_or, take, set, length-append, ne_eqb, leb→le, ltb→lt, take-suc, take-suc-set}
use Rattle.std.specs.List.{list_any}
use lib.Dec.{eqb_refl}
use Rattle.costs.specs.Limits.{size_most, entries_most, arity_most}
use Rattle.costs.specs.Net.{All}
use Rattle.costs.specs.Tests.{among, different}
use Rattle.answers.specs.declared.Refusal.{Refusal}
use Rattle.tokens.specs.Tokens.{Text}
use Rattle.tokens.specs.Steps.{got, refused, and_then, demand}
use Rattle.tokens.specs.Ties.Outcomes.{num_is}
use Rattle.tokens.specs.declared.numbers.Seen.{Seen}
use Rattle.costs.proofs.TestLaws.{by_and, by_ltb, by_self, so, not_so, both}
use Rattle.tokens.proofs.StepLaws.{and_then_lem, demanded, same-value}
use Rattle.scopes.specs.Scopes.{scope_sizes, variable, scope}
use Rattle.scopes.specs.Ties.Known.{Known}
use Rattle.stretches.proofs.SizeLaws.{product_more}
use Rattle.stretches.specs.Sizes.{product}
use Rattle.stretches.specs.Ties.Small.{Small}

module _ (vars : ℕ) (sizes : List ℕ) (entries left m : ℕ) (xs : List ℕ) (text : Text) (at : ℕ) (e : left ≡ suc m) (r : Result Seen Refusal)
    (h : num_is r ≡ variable vars sizes entries m xs text at) where
  pub scope_stop : (refusal : Refusal) → r ≡ Err refusal → scope vars sizes entries left xs text at ≡ refused refusal
  unfolding scope and_then demand
  scope_stop refusal f = rw (e, ← h, f)

  pub scope_more : (x : Seen) → r ≡ Ok x → scope vars sizes entries left xs text at ≡ scope vars sizes entries m (xs ++ x.value ∷ []) text x.next
  unfolding scope and_then demand
  scope_more x f = rw (e, ← h, f)

pub scope_end : (vars : ℕ) (sizes : List ℕ) (entries left : ℕ) (xs : List ℕ) (text : Text) (at : ℕ) → left ≡ 0
    → scope vars sizes entries left xs text at ≡ got xs at
unfolding scope and_then demand
scope_end vars sizes entries left xs text at e = rw e

pub sizes_more : (sizes xs : List ℕ) (x : ℕ) → scope_sizes sizes (xs ++ x ∷ []) ≡ scope_sizes sizes xs ++ get_or sizes x 0 ∷ []
sizes_more sizes [] x = refl
sizes_more sizes (y ∷ xs) x = ap (λ (l : List ℕ). get_or sizes y 0 ∷ l) (sizes_more sizes xs x)

-- one place more to look at
pub among_more : (x y : ℕ) (xs : List ℕ) → among x (xs ++ y ∷ []) ≡ among x xs || eqb x y
among_more x y [] = go (eqb x y)
  where
    go : (b : Bool) → b || false ≡ b
    go true = refl
    go false = refl
among_more x y (z ∷ xs) = go (eqb x z) (among_more x y xs)
  where
    go : (b : Bool) → among x (xs ++ y ∷ []) ≡ among x xs || eqb x y → b || among x (xs ++ y ∷ []) ≡ (b || among x xs) || eqb x y
    go true ih = refl
    go false ih = ih

-- as std says that one passes a test
pub among_any : (x : ℕ) (l : List ℕ) → list_any (λ v. eqb x v) l ≡ among x l
among_any x [] = refl
among_any x (v ∷ l) = ap (λ r. eqb x v || r) (among_any x l)

pub sizes_step : (sizes variables dims : List ℕ) (j s : ℕ) → j < length dims → j < length variables → take j dims ≡ scope_sizes sizes (take j variables)
    → s ≡ get_or sizes (get_or variables j 0) 0 → take (j + 1) (set dims j s) ≡ scope_sizes sizes (take (j + 1) variables)
sizes_step sizes variables dims j s h k e f = rw (add-one, take-suc-set dims j s h, take-suc variables j 0 k, sizes_more sizes (take j variables) (get_or variables j 0), ← e, f)

-- what is known of a variable that was read
module _ (vars : ℕ) (sizes : List ℕ) (entries left : ℕ) (xs : List ℕ) (text : Text) (at : ℕ) (x : Seen) (next : ℕ)
    (e : got x next ≡ variable vars sizes entries left xs text at) where
  pub variable_known : (x.value < vars) × (among x.value xs ≡ false)
      × (left ≡ 0 → 1 ≤ length xs → entries + product (scope_sizes sizes (xs ++ x.value ∷ [])) ≤ entries_most)
  unfolding variable
  variable_known =
      let s = and_then_lem _ _ _ _ e in
      let p = demanded _ _ _ _ _ _ _ s.3 in
      let q = demanded _ _ _ _ _ _ _ p.1 in
      let r : x ≡ s.0 = same-value _ _ _ _ q.1 in
      rw r (
        ((by_and (by_ltb s.0.value vars) (by_self (not (among s.0.value xs)))).says (so p.0)).0,
        unmet (among s.0.value xs) ((by_and (by_ltb s.0.value vars) (by_self (not (among s.0.value xs)))).says (so p.0)).1,
        λ z l. judged (ltb 0 left) (ltb (length xs) 1) (entries + product (scope_sizes sizes (xs ++ s.0.value ∷ []))) q.0 (λ t. let y = ltb→lt 0 left t in omega arith) (λ t. let y = ltb→lt (length xs) 1 t in omega arith),
      )
    where
      unmet : (b : Bool) → T (not b) → b ≡ false
      unmet true t = absurd t
      unmet false t = refl

      judged : (a b : Bool) (n : ℕ) → a || (b || leb n entries_most) ≡ true → (T a → ⊥) → (T b → ⊥) → n ≤ entries_most
      judged true b n h f g = absurd (f tt)
      judged false true n h f g = absurd (g tt)
      judged false false n h f g = leb→le n entries_most (so h)

-- the tuples of a scope with one variable more
pub tuples_with : (sizes xs : List ℕ) (x many s : ℕ) → many ≡ product (scope_sizes sizes xs) → s ≡ get_or sizes x 0 → product (scope_sizes sizes (xs ++ x ∷ [])) ≡ many * s
tuples_with sizes xs x many s e f = rw (sizes_more sizes xs x, product_more (scope_sizes sizes xs) (get_or sizes x 0), e, f)

all_more : (P : ℕ → Type 0) (xs : List ℕ) (x : ℕ) → All P xs → P x → All P (xs ++ x ∷ [])
all_more P [] x h p = (p, tt)
all_more P (y ∷ xs) x h p = (h.0, all_more P xs x h.1 p)

different_more : (xs : List ℕ) (x : ℕ) → T (different xs) → among x xs ≡ false → T (different (xs ++ x ∷ []))
different_more [] x h d = tt
different_more (y ∷ xs) x h d =
    let s = both (not (among y xs)) (different xs) h in
    let e : eqb x y ≡ false = left_of (eqb x y) (among x xs) d in
    let f : among x xs ≡ false = right_of (eqb x y) (among x xs) d in
    let n : among y (xs ++ x ∷ []) ≡ false = among_more y x xs ∙ rw (none (among y xs) s.0, ne_eqb y x (λ q. differ x y e (sym q))) in
    rw n (different_more xs x s.1 f)
  where
    left_of : (a b : Bool) → a || b ≡ false → a ≡ false
    left_of true b h = h
    left_of false b h = refl

    right_of : (a b : Bool) → a || b ≡ false → b ≡ false
    right_of true b h = absurd (let z : ◌≡◌ {A = ℕ} 0 1 = cc in omega arith)
    right_of false b h = h

    none : (b : Bool) → T (not b) → b ≡ false
    none true t = absurd t
    none false t = refl

    differ : (a b : ℕ) → eqb a b ≡ false → a ≡ b → ⊥
    differ a b h q = not_so h (rw q (eqb_refl b))

pub scope_known : (vars : ℕ) (sizes : List ℕ) (entries left : ℕ) (xs : List ℕ) (text : Text) (at : ℕ) (ys : List ℕ) (next : ℕ)
    → got ys next ≡ scope vars sizes entries left xs text at → Known vars sizes entries left xs ys
unfolding scope
scope_known vars sizes entries zero xs text at ys next e =
    let q : ys ≡ xs = same-value _ _ _ _ e in
    rw q (record { count = omega arith; known = λ h. h; distinct = λ h. h; room = λ l. absurd (omega arith) })
scope_known vars sizes entries (suc left) xs text at ys next e =
    let s = and_then_lem _ _ _ _ e in
    let v = variable_known vars sizes entries left xs text at s.0 s.1 (sym s.2) in
    let r = scope_known vars sizes entries left (xs ++ s.0.value ∷ []) text s.1 ys next s.3 in
    record {
      count = omega (arith, r.count, length-append xs (s.0.value ∷ []));
      known = λ h. r.known (all_more (λ w. w < vars) xs s.0.value h v.0);
      distinct = λ h. r.distinct (different_more xs s.0.value h v.1);
      room = λ l m. last left s.0.value s.1 s.3 r.room r.count v.2 m;
    }
  where
    last : (left x after : ℕ) → got ys next ≡ scope vars sizes entries left (xs ++ x ∷ []) text after
        → (1 ≤ left → 2 ≤ length ys → entries + product (scope_sizes sizes ys) ≤ entries_most) → length ys ≡ length (xs ++ x ∷ []) + left
        → (left ≡ 0 → 1 ≤ length xs → entries + product (scope_sizes sizes (xs ++ x ∷ [])) ≤ entries_most) → 2 ≤ length ys → entries + product (scope_sizes sizes ys) ≤ entries_most
    last zero x after e more count judged m =
        let q : ys ≡ xs ++ x ∷ [] = same-value _ _ _ _ e in
        let n = length-append xs (x ∷ []) in
        rw q (judged refl (omega arith))
    last (suc left) x after e more count judged m = more (omega arith) m

-- the sizes of known variables are small
pub small_scope : (vars : ℕ) (sizes ys : List ℕ) → ((v : ℕ) → v < vars → 1 ≤ get_or sizes v 0) → ((v : ℕ) → get_or sizes v 0 ≤ size_most) → All (λ v. v < vars) ys → length ys ≤ arity_most
    → Small (scope_sizes sizes ys)
small_scope vars sizes ys some most known few = record { few = omega (arith, many ys); some = least ys known; most = greatest ys }
  where
    many : (ys : List ℕ) → length (scope_sizes sizes ys) ≡ length ys
    many [] = refl
    many (y ∷ ys) = ap suc (many ys)

    least : (ys : List ℕ) → All (λ v. v < vars) ys → (j : ℕ) → j < length (scope_sizes sizes ys) → 1 ≤ get_or (scope_sizes sizes ys) j 0
    least [] h j l = absurd (omega arith)
    least (y ∷ ys) h zero l = some y h.0
    least (y ∷ ys) h (suc j) l = least ys h.1 j (omega arith)

    greatest : (ys : List ℕ) (j : ℕ) → get_or (scope_sizes sizes ys) j 0 ≤ size_most
    greatest [] j = omega arith
    greatest (y ∷ ys) zero = most y
    greatest (y ∷ ys) (suc j) = greatest ys j

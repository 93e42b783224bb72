-- One layout: the entry that a listed tuple is put at, the entry whose values a soft sum adds up and the entry that a plan touches are the same,
-- "the last scope variable changing fastest". Assumes nothing.
use Rattle.std.proofs.Common.{ℕ, zero, suc, ◌+◌, ◌*◌, ◌≤◌, ◌<◌, ◌≡◌, refl, sym, ap, ◌∙◌, Bool, true, ◌||◌, List, [], ◌∷◌, map, mul_assoc, arith, T, ltb, eqb, length, get_or}
use lib.Arith.{digits_lt, digits_div, digits_mod}
use Rattle.costs.specs.Net.{tuples, entry}
use Rattle.costs.proofs.TestLaws.{so, by_ltb, by_eqb}
use Rattle.tokens.specs.Tokens.{Text}
use Rattle.tokens.specs.Steps.{got, and_then}
use Rattle.tokens.specs.declared.numbers.Seen.{Seen}
use Rattle.tokens.specs.Numbers.{any_number}
use Rattle.tokens.proofs.StepLaws.{and_then_lem, demanded, same-value, same_next}
use Rattle.stretches.specs.Sizes.{product}
use Rattle.scopes.specs.Scopes.{scope_sizes}
use Rattle.listed_costs.specs.Listed.{unlisted, value, tuple}
use Rattle.soft_sums.specs.Soft.{values_at}
use Rattle.reader.specs.Said.{numbers}

-- the entry of values of variables of these sizes
abbrev pub entry_of : List ℕ → List ℕ → ℕ
entry_of [] vs = 0
entry_of (d ∷ ds) [] = 0
entry_of (d ∷ ds) (v ∷ vs) = v * product ds + entry_of ds vs

-- one value below each of the sizes
abbrev pub Below : List ℕ → List ℕ → Type 0
Below [] [] = Unit {0}
Below [] (v ∷ vs) = ⊥
Below (d ∷ ds) [] = ⊥
Below (d ∷ ds) (v ∷ vs) = (v < d) × Below ds vs

pub entry_below : (ds vs : List ℕ) → Below ds vs → entry_of ds vs < product ds
unfolding product
entry_below [] [] h = omega arith
entry_below [] (v ∷ vs) h = absurd h
entry_below (d ∷ ds) [] h = absurd h
entry_below (d ∷ ds) (v ∷ vs) h = digits_lt h.0 (entry_below ds vs h.1)

-- a digit more in front
horner : (e d v p r : ℕ) → e * (d * p) + (v * p + r) ≡ (e * d + v) * p + r
horner e d v p r = omega (arith, mul_assoc e d p)

pub product-tuples : (sizes xs : List ℕ) → product (scope_sizes sizes xs) ≡ tuples (λ v. get_or sizes v 0) xs
unfolding product
product-tuples sizes [] = refl
product-tuples sizes (x ∷ xs) = ap (λ (n : ℕ). get_or sizes x 0 * n) (product-tuples sizes xs)

-- the entry that a plan touches
pub entry-touched : (sizes : List ℕ) (p : ℕ → ℕ) (xs : List ℕ) → entry (λ v. get_or sizes v 0) p xs ≡ entry_of (scope_sizes sizes xs) (map p xs)
entry-touched sizes p [] = refl
entry-touched sizes p (x ∷ xs) = rw (entry-touched sizes p xs, product-tuples sizes xs)

-- the values that a soft sum adds up at an entry
values_behind : (ds vs : List ℕ) (front : ℕ) → Below ds vs → values_at ds (front * product ds + entry_of ds vs) ≡ vs
unfolding values_at product
values_behind [] [] front h = refl
values_behind [] (v ∷ vs) front h = absurd h
values_behind (d ∷ ds) [] front h = absurd h
values_behind (d ∷ ds) (v ∷ vs) front h =
    rw (horner front d v (product ds) (entry_of ds vs), digits_div (front * d + v) (entry_below ds vs h.1), digits_mod front h.0, values_behind ds vs (front * d + v) h.1)

pub values_there : (ds vs : List ℕ) → Below ds vs → values_at ds (entry_of ds vs) ≡ vs
values_there ds vs h = let e : entry_of ds vs ≡ 0 * product ds + entry_of ds vs = omega arith in rw e (values_behind ds vs 0 h)

-- so two tuples have two entries
pub entry_own : (ds vs ws : List ℕ) → Below ds vs → Below ds ws → entry_of ds vs ≡ entry_of ds ws → vs ≡ ws
entry_own ds vs ws h k e = sym (values_there ds vs h) ∙ ap (values_at ds) e ∙ values_there ds ws k

-- a value that was read: below its size, and where it is the last no tuple had listed the entry
value_read : (cells : List ℕ) (d left before : ℕ) (text : Text) (at : ℕ) (a : Seen) (next : ℕ) → got a next ≡ value cells d left before text at
    → (any_number text at ≡ got a next) × (a.value < d) × (left ≡ 0 → get_or cells (before * d + a.value) 0 ≡ unlisted)
unfolding value
value_read cells d left before text at a next e =
    let s = and_then_lem _ _ _ _ e in
    let p = demanded _ _ _ _ _ _ _ s.3 in
    let q = demanded _ _ _ _ _ _ _ p.1 in
    let o : got a next ≡ got s.0 s.1 = q.1 in
    let v : a ≡ s.0 = same-value _ _ _ _ o in
    (s.2 ∙ sym o, rw v ((by_ltb s.0.value d).says (so p.0)), λ z. rw v (last left (eqb (get_or cells (before * d + s.0.value) 0) unlisted) z q.0 (by_eqb (get_or cells (before * d + s.0.value) 0) unlisted).says))
  where
    last : {A : Type 0} (left : ℕ) (b : Bool) → left ≡ 0 → ltb 0 left || b ≡ true → (T b → A) → A
    last zero b z h f = f (so h)
    last (suc left) b z h f = absurd (omega arith)

-- a listed tuple that was read: its values, each below its size; the entry that they lead to, which no tuple had listed
pub record TupleRead (cells ds : List ℕ) (before : ℕ) (text : Text) (at out next : ℕ) : Type 0 where
  pub values : List ℕ
  pub says : numbers (length ds) text at ≡ got values next
  pub below : Below ds values
  pub entry_is : out ≡ before * product ds + entry_of ds values
  pub fresh : 1 ≤ length ds → get_or cells out 0 ≡ unlisted

fresh_last : (cells ds : List ℕ) (before : ℕ) (text : Text) (at out next : ℕ) → TupleRead cells ds before text at out next → (length ds ≡ 0 → get_or cells before 0 ≡ unlisted) → get_or cells out 0 ≡ unlisted
unfolding product
fresh_last cells [] before text at out next r f = let o : out ≡ before = omega (arith, r.entry_is) in rw o (f refl)
fresh_last cells (d ∷ ds) before text at out next r f = r.fresh (omega arith)

pub tuple_read : (cells ds : List ℕ) (before : ℕ) (text : Text) (at out next : ℕ) → got out next ≡ tuple cells ds before text at → TupleRead cells ds before text at out next
unfolding tuple numbers and_then product
tuple_read cells [] before text at out next e =
    let o : out ≡ before = same-value _ _ _ _ e in
    record { values = []; says = ap (λ (n : ℕ). got [] n) (sym (same_next _ _ _ _ e)); below = tt; entry_is = omega (arith, o); fresh = λ l. absurd (omega arith) }
tuple_read cells (d ∷ ds) before text at out next e =
    let a = and_then_lem _ _ _ _ e in
    let v = value_read cells d (length ds) before text at a.0 a.1 (sym a.2) in
    let r = tuple_read cells ds (before * d + a.0.value) text a.1 out next a.3 in
    record {
      values = a.0.value ∷ r.values;
      says = rw (v.0, r.says);
      below = (v.1, r.below);
      entry_is = r.entry_is ∙ sym (horner before d a.0.value (product ds) (entry_of ds r.values));
      fresh = λ l. fresh_last cells ds (before * d + a.0.value) text a.1 out next r v.2;
    }

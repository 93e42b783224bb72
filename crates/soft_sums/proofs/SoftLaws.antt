-- Laws of the soft sum: its modes and comparators by their places, its values read from the last, and what is known of one that was read. Assumes nothing.
use Rattle.std.proofs.Common.{ℕ, suc, ◌+◌, ◌-◌, ◌/◌, ◌%◌, ◌≤◌, ◌<◌, ◌≡◌, refl, sym, ap, ◌∙◌, List, length, get_or, drop, drop-cons, reverse, arith, div-one, mod-lt, mul_comm, add_comm, drop_of_length-le}
use Rattle.std.proofs.lemmas.List.{get_or-reverse, length-reverse}
use Rattle.std.proofs.lemmas.Grind.{get_or_default_zero}
use native.Mathlib.Nat.{div-div-eq-div-mul}
use Rattle.tokens.specs.Tokens.{Text}
use Rattle.tokens.specs.Steps.{got}
use Rattle.tokens.proofs.StepLaws.{and_then_lem, same-value}
use Rattle.tokens.proofs.NumberLaws.{in_range}
use Rattle.costs.specs.Limits.{size_most}
use Rattle.stretches.specs.Sizes.{product}
use Rattle.stretches.specs.Ties.Small.{Small}
use Rattle.soft_sums.specs.Soft.{mode_at, mode_place, comparator_at, comparator_place, soft_sum, values_at, total}
use Rattle.soft_sums.specs.Ties.Outcomes.{Fair}
use Rattle.soft_sums.specs.declared.Mode.{Mode}
use Rattle.soft_sums.specs.declared.Mode.TheVariants.{Hard, Lin, Quad}
use Rattle.soft_sums.specs.declared.Comparator.{Comparator}
use Rattle.soft_sums.specs.declared.Comparator.TheVariants.{Equal, Unequal, Below, AtMost, Above, AtLeast}
use Rattle.soft_sums.specs.declared.Soft.{Soft}

-- what stands at its place
pub mode_placed : (m : Mode) → mode_at (mode_place m) ≡ m
unfolding mode_at
mode_placed Hard = refl
mode_placed Lin = refl
mode_placed Quad = refl

pub comparator_placed : (c : Comparator) → comparator_at (comparator_place c) ≡ c
unfolding comparator_at
comparator_placed Equal = refl
comparator_placed Unequal = refl
comparator_placed Below = refl
comparator_placed AtMost = refl
comparator_placed Above = refl
comparator_placed AtLeast = refl

-- no value yet, from the last on
pub sum_none : (ds : List ℕ) (j entry : ℕ) → length ds ≤ j → (entry ≡ entry / product (drop j ds)) × (0 ≡ total (values_at (drop j ds) entry))
unfolding product values_at total
sum_none ds j entry h = rw (drop_of_length-le ds h) (sym (div-one entry), refl)

-- one value more
before_it : (ds : List ℕ) (j entry rest sum : ℕ) → j < length ds → rest ≡ entry / product (drop (suc j) ds) → sum ≡ total (values_at (drop (suc j) ds) entry)
    → (rest / get_or ds j 0 ≡ entry / product (drop j ds)) × (sum + rest % get_or ds j 0 ≡ total (values_at (drop j ds) entry))
unfolding product values_at total
before_it ds j entry rest sum h p q =
    rw (drop-cons ds j 0 h) (
      ap (λ (n : ℕ). n / get_or ds j 0) p ∙ div-div-eq-div-mul entry (product (drop (suc j) ds)) (get_or ds j 0)
          ∙ ap (λ (n : ℕ). entry / n) (mul_comm (product (drop (suc j) ds)) (get_or ds j 0)),
      add_comm sum (rest % get_or ds j 0) ∙ cc (p, q),
    )

pub sum_more : (ds : List ℕ) (k j entry rest sum : ℕ) → k ≡ suc j → j < length ds → rest ≡ entry / product (drop k ds) → sum ≡ total (values_at (drop k ds) entry)
    → (rest / get_or ds j 0 ≡ entry / product (drop j ds)) × (sum + rest % get_or ds j 0 ≡ total (values_at (drop j ds) entry))
sum_more ds k j entry rest sum e h = rw e (before_it ds j entry rest sum h)

-- the size that a loop from the end comes to after n others
pub from_end : (ds : List ℕ) (n d : ℕ) → (n < length (reverse ds)) × (d ≡ get_or (reverse ds) n d) → (n < length ds) × (d ≡ get_or ds (length ds - 1 - n) 0)
from_end ds n d h =
    let l : n < length ds = omega (arith, h.0, length-reverse ds) in
    (l, h.1 ∙ get_or-reverse ds n d l ∙ get_or_default_zero ds (length ds - 1 - n) d (omega arith))

pub value_small : (ds : List ℕ) (n d rest : ℕ) → Small ds → (n < length ds) × (d ≡ get_or ds (length ds - 1 - n) 0) → rest % d < size_most
value_small ds n d rest small h =
    let m = mod-lt rest (small.some (length ds - 1 - n) (omega (arith, h.0))) in
    rw h.1 (omega (arith, m, small.most (length ds - 1 - n)))

-- a soft sum that was read has its numbers in range
pub soft_fair : (text : Text) (at : ℕ) (soft : Soft) (next : ℕ) → got soft next ≡ soft_sum text at → Fair soft
unfolding soft_sum
soft_fair text at soft next e =
    let mode = and_then_lem _ _ _ _ e in
    let base = and_then_lem _ _ _ _ mode.3 in
    let comparator = and_then_lem _ _ _ _ base.3 in
    let limit = and_then_lem _ _ _ _ comparator.3 in
    let q = same-value _ _ _ _ limit.3 in
    record {
      base_at_most = rw (ap (λ (s : Soft). s.base) q) (in_range _ _ _ _ _ _ (sym base.2)).1;
      limit_at_most = rw (ap (λ (s : Soft). s.limit) q) (in_range _ _ _ _ _ _ (sym limit.2)).1;
    }

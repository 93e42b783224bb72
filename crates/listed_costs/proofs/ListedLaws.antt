-- Laws of listed costs, one turn at a time. Assumes nothing.
use Rattle.std.specs.Prelude.{Result, Ok}
use Rattle.std.proofs.Common.{ℕ, suc, ◌+◌, ◌-◌, ◌*◌, ◌^◌, ◌≤◌, ◌<◌, min, ◌≡◌, List, length, get_or, drop, set, length-drop, drop-cons, add-one, arith, suc-mul, drop_of_length-le}
use Rattle.costs.specs.Limits.{size_most, entries_most, arity_most}
use Rattle.costs.proofs.TestLaws.{by_ltb, so}
use Rattle.answers.specs.declared.Refusal.{Refusal}
use Rattle.tokens.specs.Tokens.{Text}
use Rattle.tokens.specs.Steps.{got, and_then}
use Rattle.tokens.specs.Numbers.{any_number}
use Rattle.tokens.specs.Ties.Outcomes.{num_is}
use Rattle.tokens.specs.declared.numbers.Seen.{Seen}
use Rattle.tokens.proofs.StepLaws.{and_then_lem, demanded, same-value}
use Rattle.stretches.proofs.SizeLaws.{few_more, few_most}
use Rattle.listed_costs.specs.Listed.{value, tuple, listing}

module _ (cells ds : List ℕ) (j entry : ℕ) (text : Text) (at : ℕ) where
  pub tuple_end : length ds ≤ j → tuple cells (drop j ds) entry text at ≡ got entry at
  unfolding tuple
  tuple_end h = rw (drop_of_length-le ds h)

  pub tuple_turn : j < length ds → tuple cells (drop j ds) entry text at
      ≡ and_then (value cells (get_or ds j 0) (length ds - 1 - j) entry text at) (λ a next. tuple cells (drop (j + 1) ds) (entry * get_or ds j 0 + a.value) text next)
  unfolding tuple
  tuple_turn l =
      let q : length ds - suc j ≡ length ds - 1 - j = omega arith in
      rw (drop-cons ds j 0 l, length-drop, q, add-one)

module _ (top : ℕ) (ds : List ℕ) (left : ℕ) (cells : List ℕ) (text : Text) (at : ℕ) where
  pub listing_end : left ≡ 0 → listing top ds left cells text at ≡ got cells at
  unfolding listing
  listing_end e = rw e

  pub listing_turn : (m : ℕ) → left ≡ suc m → listing top ds left cells text at
      ≡ and_then (tuple cells ds 0 text at) (λ entry next. and_then (any_number text next) (λ cost end. listing top ds m (set cells entry (min top cost.value)) text end))
  unfolding listing
  listing_turn m e = rw e

-- a value that was read is below its size
pub value_below : (cells : List ℕ) (d left before : ℕ) (text : Text) (at : ℕ) (r : Result Seen Refusal) → num_is r ≡ value cells d left before text at → (a : Seen) → r ≡ Ok a → a.value < d
unfolding value
value_below cells d left before text at r h a f =
    let e : got a a.next ≡ value cells d left before text at = rw (← h, f) in
    let s = and_then_lem _ _ _ _ e in
    let p = demanded _ _ _ _ _ _ _ s.3 in
    let q = demanded _ _ _ _ _ _ _ p.1 in
    let o : a ≡ s.0 = same-value _ _ _ _ q.1 in
    rw o ((by_ltb s.0.value d).says (so p.0))

-- an entry of at most three values has room for the next
pub index_room : (index d j : ℕ) → j ≤ 2 → d ≤ size_most → index < size_most ^ j → index * d + d ≤ entries_most
index_room index d j h l m = omega (arith, few_most _ (j + 1) arity_most (omega arith) (few_more (suc index) d j l m), suc-mul index d)

-- What is known of a number that was read. Assumes nothing.
use Rattle.std.proofs.Common.{ℕ, ◌≤◌, ◌≡◌, sym, ◌∙◌}
use Rattle.costs.proofs.TestLaws.{by_and, by_leb, so}
use Rattle.tokens.specs.Tokens.{Text}
use Rattle.tokens.specs.Steps.{got}
use Rattle.tokens.specs.Numbers.{any_number, number_in}
use Rattle.tokens.specs.declared.numbers.Seen.{Seen}
use Rattle.tokens.proofs.StepLaws.{and_then_lem, demanded, same-value}

-- it is in its range
pub in_range : (least most : ℕ) (text : Text) (at : ℕ) (x : Seen) (next : ℕ) → got x next ≡ number_in least most text at
    → (least ≤ x.value) × (x.value ≤ most)
unfolding number_in
in_range least most text at x next e =
    let s = and_then_lem _ _ _ _ e in
    let d = demanded _ _ _ _ _ _ _ s.3 in
    let q : x ≡ s.0 = same-value _ _ _ _ d.1 in
    rw q ((by_and (by_leb least s.0.value) (by_leb s.0.value most)).says (so d.0))

-- and the number that any would be there
pub number_there : (least most : ℕ) (text : Text) (at : ℕ) (x : Seen) (next : ℕ) → got x next ≡ number_in least most text at → any_number text at ≡ got x next
unfolding number_in
number_there least most text at x next e =
    let s = and_then_lem _ _ _ _ e in
    let d = demanded _ _ _ _ _ _ _ s.3 in
    s.2 ∙ sym d.1

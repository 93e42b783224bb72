-- Choices written behind what was written.
use Rattle.std.proofs.Common.{ℕ, suc, ◌+◌, ◌≡◌, List, ◌++◌, get_or, sym, ap, ◌∙◌, append_assoc, append-nil, arith}
use Rattle.lines.specs.Numerals.{numeral}
use Rattle.lines.specs.Lines.{space, choices_to}

pub no_choices : (before choice : List ℕ) → before ≡ before ++ choices_to 0 choice
unfolding choices_to
no_choices before choice = sym (append-nil before)

-- a choice more, its space before it
pub choice_more : (before choice w : List ℕ) (v : ℕ) → w ≡ before ++ choices_to v choice ++ space ++ numeral (get_or choice v 0) → w ≡ before ++ choices_to (v + 1) choice
unfolding choices_to
choice_more before choice w v e =
    let one : v + 1 ≡ suc v = omega arith in
    let c = choices_to v choice in
    e
    ∙ ap (λ (xs : List ℕ). xs ++ numeral (get_or choice v 0)) (append_assoc before c space)
    ∙ append_assoc before (c ++ space) (numeral (get_or choice v 0))
    ∙ ap (λ (m : ℕ). before ++ choices_to m choice) (sym one)

use Rattle.std.proofs.Common.{rules, sym, ◌∙◌}
use Rattle.costs.proofs.TestLaws.{no_by, so, not_so, by_not, by_eqb}
use Rattle.judging.proofs.JudgeLaws.{same_by, joined, by_variables}
use Rattle.judging.proofs.three_good.Goals.{then-two_good, else-two_good}
use Rattle.judging.proofs.three_good.Goals as goal

pub returns-then-two_good-2 : goal.returns-then-two_good-2
returns-then-two_good-2 c = elim c.if-two_good.branch [
  | then-two_good w ↦ let a = (by_variables _ _).says (so (sym c.two_good.ensures ∙ w.if-two_good.true)) in
      let b = (by_variables _ _).says (so (sym w.two_good-then-two_good.ensures ∙ sym w.value-is ∙ c.if-two_good-2.true)) in
      same_by (by_not _ (by_eqb _ _)) (by_variables _ _) (λ d. search rules) (λ d. search rules)
  | else-two_good w ↦ absurd (not_so (w.value-is ∙ w.if-two_good.false) (so c.if-two_good-2.true))
]

pub returns-else-two_good-2 : goal.returns-else-two_good-2
returns-else-two_good-2 c = c.if-two_good-2.false ∙ no_by (by_variables _ _) (λ h. elim c.if-two_good.branch [
  | then-two_good w ↦ joined (by_variables _ _) (w.value-is ∙ w.two_good-then-two_good.ensures) c.if-two_good-2.false (search rules)
  | else-two_good w ↦ joined (by_variables _ _) c.two_good.ensures w.if-two_good.false (search rules)
])

use Rattle.std.proofs.Common.{arith, sym, ◌∙◌}
use Rattle.costs.proofs.TestLaws.{no_by}
use Rattle.judging.proofs.JudgeLaws.{by_row, row_two, row_three}
use Rattle.judging.proofs.row_good.Goals as goal

pub returns-in-2 : goal.returns-in-2
returns-in-2 c = c.two_good.ensures ∙ rw (c.row_at-x.ensures, c.row_at-y.ensures) (sym (row_two _ _ (sym c.row_at-arity.ensures ∙ c.in-2.is)))

pub returns-in-3 : goal.returns-in-3
returns-in-3 c = c.three_good.ensures ∙ rw (c.row_at-x.ensures, c.row_at-y.ensures, c.row_at-z.ensures) (sym (row_three _ _ (sym c.row_at-arity.ensures ∙ c.in-3.is)))

pub returns-in_default : goal.returns-in_default
returns-in_default c = no_by (by_row _ _) (λ h. omega (arith, h, c.in_default, c.row_at-arity.ensures))

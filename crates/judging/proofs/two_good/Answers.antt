use Rattle.std.proofs.Common.{rules, Bool, ◌≡◌, false, arith, ◌∙◌}
use Rattle.costs.proofs.TestLaws.{no_by, by_not, by_eqb}
use Rattle.judging.proofs.JudgeLaws.{same_by, by_variables}
use Rattle.judging.proofs.two_good.Goals as goal

pub returns-then-y-vars : goal.returns-then-y-vars
returns-then-y-vars c = same_by (by_not _ (by_eqb _ _)) (by_variables _ _) (λ d. search rules) (λ d. search rules)

pub returns-else-y-vars : goal.returns-else-y-vars
returns-else-y-vars c = let e : ◌≡◌ {A = Bool} _ false = search rules in e ∙ no_by (by_variables _ _) (λ h. omega (arith, h, c.if-y-vars.either))

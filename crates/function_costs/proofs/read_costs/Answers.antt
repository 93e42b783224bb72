use Rattle.std.proofs.Common.{sym, ◌∙◌, rules, tests}
use Rattle.function_costs.proofs.FunctionCostLaws.{costs_none, costs-marked, costs-listed}
use Rattle.function_costs.proofs.read_costs.Goals as goal

pub returns-then-is_empty : goal.returns-then-is_empty
returns-then-is_empty c = c.read_listed.ensures ∙ sym (costs_none _ _ _ _ (search (tests, rules)))

pub returns-in-Some : goal.returns-in-Some
returns-in-Some c = c.read_marked.ensures ∙ sym (costs-marked _ _ _ _ c.passed.ensures _ (search (tests, rules)) _ c.in-Some.is)

pub returns-in-None : goal.returns-in-None
returns-in-None c =
    c.read_listed-in-None.ensures ∙ rw c.requires (sym (costs-listed _ _ _ _ c.passed.ensures _ (search (tests, rules)) c.in-None.is))

use Rattle.std.proofs.Common.{arith, add-one, rules, ◌≡◌, ◌-◌, suc, sym, ap, ◌∙◌}
use Rattle.tokens.specs.Steps.{and_then}
use Rattle.tokens.specs.Ties.Outcomes.{pos_is}
use Rattle.placing.specs.Ties.Sheets.{drafted}
use Rattle.functions.specs.Functions.{functions}
use Rattle.functions.proofs.FunctionLaws.{function_numbers}
use Rattle.functions.proofs.read_functions.Goals as goal

pub returns-in_err-next-clause-value : goal.returns-in_err-next-clause-value
unfolding functions and_then
returns-in_err-next-clause-value c =
    let left : c.args.many - c.loop.counter ≡ suc (c.args.many - suc c.loop.counter) = omega arith in
    rw (c.loop.invariant.1, left, ← c.read_function.ensures.value, c.in_err-next.was) (search rules)

pub loop-preserved : goal.loop-preserved
unfolding functions and_then
loop-preserved c =
    let left : c.args.many - c.loop.counter ≡ suc (c.args.many - suc c.loop.counter) = omega arith in
    let one = function_numbers _ _ _ _ _ (ap (λ r. pos_is r (drafted c.read_function.new.draft)) (sym c.in_ok-next.was) ∙ c.read_function.ensures.value) in
    (omega (arith, one, c.loop.invariant.0), rw (c.loop.invariant.1, left, add-one, ← c.read_function.ensures.value, c.in_ok-next.was), search rules)

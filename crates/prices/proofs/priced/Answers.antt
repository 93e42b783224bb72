use Rattle.judging.proofs.JudgeLaws.{judged_room}
use Rattle.prices.proofs.PriceLaws.{good_plan, err_answered, priced-length, priced-value, priced_done}
use Rattle.prices.proofs.priced.Goals as goal

pub returns-in_err-judged : goal.returns-in_err-judged
returns-in_err-judged c = err_answered _ _ _ c.in_err-judged.field-0.0 c.from_residual.result c.from_residual.ensures.1 c.in_err-judged.ensures.value

pub returns-then-plan-net : goal.returns-then-plan-net
returns-then-plan-net c = priced-length _ _ _ _ c.in_ok-judged.ensures.value c.if-plan-net.true

pub returns-in-Some : goal.returns-in-Some
returns-in-Some c = priced-value _ _ _ _ c.in_ok-judged.ensures.value c.if-plan-net.false c.in-Some.v c.in-Some.ensures

pub price_of-requires-clause-whole : goal.price_of-requires-clause-whole
price_of-requires-clause-whole c = judged_room _ _ _ c.in_ok-judged.judged c.in_ok-judged.ensures.value

pub price_of-requires-clause-plan : goal.price_of-requires-clause-plan
price_of-requires-clause-plan c = rw c.in_ok-judged.ensures.network (good_plan c.args.net.now c.args.table.now c.args.plan.now c.in_default.ensures)

pub returns : goal.returns
returns c = rw (c.price_of.ensures, c.in_ok-judged.ensures.network) (priced_done _ _ _ _ c.in_ok-judged.ensures.value c.if-plan-net.false c.in_default.ensures)

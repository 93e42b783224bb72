use Rattle.std.proofs.Common.{◌∙◌}
use Rattle.costs.specs.Networks.{stands}
use Rattle.costs.specs.Net.{costs_of, price}
use Rattle.costs.specs.Cheapest.{value_in}
use Rattle.prices.proofs.BreakLaws.{sum_begun}
use Rattle.prices.proofs.prices.price_of.Goals as goal

pub with_unary-unary-requires-clause-before : goal.with_unary-unary-requires-clause-before
with_unary-unary-requires-clause-before c = let net = c.args.judged.now.network.now in c.begun-constant.ensures ∙ sum_begun (stands net) (costs_of net.constant c.args.table.now) (value_in c.args.choice.now)

pub returns : goal.returns
unfolding price
returns c = rw c.with_functions-whole.ensures

use Rattle.std.proofs.Common.{arith}
use Rattle.prices.proofs.PriceLaws.{value_bad, values_good}
use Rattle.prices.proofs.first_bad.Goals as goal

pub returns-then-size-from : goal.returns-then-size-from
returns-then-size-from c = value_bad c.args.net.now.vars c.args.net.now.sizes c.args.choice.now c.loop-v.v c.loop-v-test.true c.loop-v.invariant (omega (arith, c.size.ensures, c.from.ensures, c.if-size-from.true))

pub returns : goal.returns
returns c = values_good c.args.net.now.vars c.args.net.now.sizes c.args.choice.now (λ w l. c.loop-v.invariant w (omega arith))

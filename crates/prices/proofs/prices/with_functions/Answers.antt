use Rattle.std.proofs.Common.{ℕ, ap, arith, get_or}
use Rattle.costs.specs.Net.{costs_of}
use Rattle.costs.specs.Networks.{stands}
use Rattle.costs.specs.Cheapest.{value_in}
use Rattle.prices.proofs.BreakLaws.{sum-function}
use Rattle.prices.proofs.PriceLaws.{function_place}
use Rattle.prices.proofs.prices.with_functions.Goals as goal

pub overflow_add-at : goal.overflow_add-at
overflow_add-at c = omega (arith, function_place c.args.judged.now c.args.table.now c.args.choice.now c.requires.whole c.requires.plan c.loop-f.f c.start.result c.entry_of.result c.loop-f-test.true c.start.ensures c.entry_of.ensures)

pub offset_bounds-table-at : goal.offset_bounds-table-at
offset_bounds-table-at c = omega (arith, function_place c.args.judged.now c.args.table.now c.args.choice.now c.requires.whole c.requires.plan c.loop-f.f c.start.result c.entry_of.result c.loop-f-test.true c.start.ensures c.entry_of.ensures)

pub bounds-table-at : goal.bounds-table-at
bounds-table-at c = omega (arith, function_place c.args.judged.now c.args.table.now c.args.choice.now c.requires.whole c.requires.plan c.loop-f.f c.start.result c.entry_of.result c.loop-f-test.true c.start.ensures c.entry_of.ensures)

pub loop-f-preserved : goal.loop-f-preserved
loop-f-preserved c = let net = c.args.judged.now.network.now in
    let place = function_place c.args.judged.now c.args.table.now c.args.choice.now c.requires.whole c.requires.plan c.loop-f.f c.start.result c.entry_of.result c.loop-f-test.true c.start.ensures c.entry_of.ensures in
    sum-function (stands net) (costs_of net.constant c.args.table.now) (value_in c.args.choice.now) c.loop-f.f _ _ _ c.loop-f.invariant (ap (λ (i : ℕ). get_or c.args.table.now i 0) place.0) c.added-sum.ensures

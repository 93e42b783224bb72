use Rattle.std.proofs.Common.{ℕ, ap, arith, get_or}
use Rattle.costs.specs.Net.{costs_of}
use Rattle.costs.specs.Networks.{outline_of, stands}
use Rattle.costs.specs.Cheapest.{value_in}
use Rattle.costs.proofs.NetLaws.{tuples_unary, stretch_below}
use Rattle.costs.proofs.RangeLaws.{sum_to_next}
use Rattle.costs.proofs.RowLaws.{scoped_sound}
use Rattle.prices.proofs.BreakLaws.{sum_unary}
use Rattle.prices.proofs.PriceLaws.{unary_place}
use Rattle.prices.proofs.prices.with_unary.Goals as goal

pub overflow_add-start : goal.overflow_add-start
overflow_add-start c = omega (arith, unary_place c.args.judged.now c.args.table.now c.args.choice.now c.requires.whole c.requires.plan c.loop-v.v c.loop-v.start c.from-value.result c.loop-v-test.true c.loop-v.invariant.1 c.from-value.ensures)

pub offset_bounds-table-start : goal.offset_bounds-table-start
offset_bounds-table-start c = omega (arith, unary_place c.args.judged.now c.args.table.now c.args.choice.now c.requires.whole c.requires.plan c.loop-v.v c.loop-v.start c.from-value.result c.loop-v-test.true c.loop-v.invariant.1 c.from-value.ensures)

pub bounds-table-start : goal.bounds-table-start
bounds-table-start c = omega (arith, unary_place c.args.judged.now c.args.table.now c.args.choice.now c.requires.whole c.requires.plan c.loop-v.v c.loop-v.start c.from-value.result c.loop-v-test.true c.loop-v.invariant.1 c.from-value.ensures)

pub overflow_add-start-in-loop-v : goal.overflow_add-start-in-loop-v
overflow_add-start-in-loop-v c = let j = c.args.judged.now in let net = j.network.now in
    let good = scoped_sound (outline_of net) net.sizes net.scopes j.ready.scoped in
    omega (arith, c.size-start.ensures, c.loop-v.invariant.1, j.ready.few, tuples_unary (stands net) good c.loop-v.v c.loop-v-test.true, stretch_below (stands net) c.loop-v.v (omega arith))

pub loop-v-preserved : goal.loop-v-preserved
loop-v-preserved c = let j = c.args.judged.now in let net = j.network.now in
    let good = scoped_sound (outline_of net) net.sizes net.scopes j.ready.scoped in
    let place = unary_place j c.args.table.now c.args.choice.now c.requires.whole c.requires.plan c.loop-v.v c.loop-v.start c.from-value.result c.loop-v-test.true c.loop-v.invariant.1 c.from-value.ensures in (
      sum_unary (stands net) (costs_of net.constant c.args.table.now) (value_in c.args.choice.now) c.loop-v.v _ _ _ c.loop-v-test.true c.loop-v.invariant.0 (ap (λ (i : ℕ). get_or c.args.table.now i 0) place.0) c.added-sum.ensures,
      rw (sum_to_next, tuples_unary (stands net) good c.loop-v.v c.loop-v-test.true, c.size-start.ensures, c.loop-v.invariant.1),
    )

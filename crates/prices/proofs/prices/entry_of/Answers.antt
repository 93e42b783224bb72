use Rattle.std.proofs.Common.{◌≡◌, refl, arith, get_or}
use Rattle.costs.specs.Cheapest.{value_in}
use Rattle.costs.proofs.ScopeLaws.{entry_more}
use Rattle.prices.proofs.PriceLaws.{entry_room}
use Rattle.prices.proofs.prices.entry_of.Goals as goal

-- what the entry is, before that it fits
pub loop-v-preserved : goal.loop-v-preserved
loop-v-preserved c = let net = c.args.net.now in let vs = c.scope-v-items.result.now in
    let size : c.size-size.result ≡ get_or net.sizes (get_or vs c.loop-v.v-index 0) 0 = cc in
    let value : c.from-value.result ≡ get_or c.args.choice.now (get_or vs c.loop-v.v-index 0) 0 = cc in
    let room = entry_room net c.args.choice.now c.requires.scoped.0 c.requires.values c.args.f c.requires.scoped.1 vs c.scope-v-items.ensures c.loop-v.v-index c.loop-v.entry c.size-size.result c.from-value.result c.loop-v-test.true c.loop-v.invariant.1 size value in
    (entry_more (λ v. get_or net.sizes v 0) (value_in c.args.choice.now) vs c.loop-v.v-index c.loop-v.entry c.size-size.result c.from-value.result _ c.loop-v-test.true size value c.loop-v.invariant.0, room.1)

pub overflow_mul-entry : goal.overflow_mul-entry
overflow_mul-entry c = let net = c.args.net.now in let vs = c.scope-v-items.result.now in
    let size : c.size-size.result ≡ get_or net.sizes (get_or vs c.loop-v.v-index 0) 0 = cc in
    omega (arith, entry_room net c.args.choice.now c.requires.scoped.0 c.requires.values c.args.f c.requires.scoped.1 vs c.scope-v-items.ensures c.loop-v.v-index c.loop-v.entry c.size-size.result _ c.loop-v-test.true c.loop-v.invariant.1 size refl)

pub overflow_add-entry : goal.overflow_add-entry
overflow_add-entry c = let net = c.args.net.now in let vs = c.scope-v-items.result.now in
    let size : c.size-size.result ≡ get_or net.sizes (get_or vs c.loop-v.v-index 0) 0 = cc in
    let value : c.from-value.result ≡ get_or c.args.choice.now (get_or vs c.loop-v.v-index 0) 0 = cc in
    omega (arith, entry_room net c.args.choice.now c.requires.scoped.0 c.requires.values c.args.f c.requires.scoped.1 vs c.scope-v-items.ensures c.loop-v.v-index c.loop-v.entry c.size-size.result c.from-value.result c.loop-v-test.true c.loop-v.invariant.1 size value)

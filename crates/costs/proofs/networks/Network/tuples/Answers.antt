use Rattle.std.proofs.Common.{◌≡◌, get_or, arith}
use Rattle.costs.proofs.ScopeLaws.{tuples_more, tuples_few}
use Rattle.costs.proofs.networks.Network.tuples.Goals as goal

pub overflow_mul-many : goal.overflow_mul-many
overflow_mul-many c =
    let s = c.args.self.now in
    let few = tuples_few s.vars s.functions s.sizes s.scopes c.requires.0 c.args.f c.requires.1 c.scope-v-items.result.now c.scope-v-items.ensures c.loop-v.v-index c.loop-v.many c.loop-v-test.true c.loop-v.invariant.1 in
    let e : c.size-many.result ≡ get_or s.sizes (get_or c.scope-v-items.result.now c.loop-v.v-index 0) 0 = cc in
    rw e (omega arith)

pub loop-v-preserved : goal.loop-v-preserved
loop-v-preserved c =
    let s = c.args.self.now in
    let few = tuples_few s.vars s.functions s.sizes s.scopes c.requires.0 c.args.f c.requires.1 c.scope-v-items.result.now c.scope-v-items.ensures c.loop-v.v-index c.loop-v.many c.loop-v-test.true c.loop-v.invariant.1 in
    let e : c.size-many.result ≡ get_or s.sizes (get_or c.scope-v-items.result.now c.loop-v.v-index 0) 0 = cc in
    (tuples_more (λ v. get_or s.sizes v 0) c.scope-v-items.result.now c.loop-v.v-index c.loop-v.many c.size-many.result _ c.loop-v-test.true e c.loop-v.invariant.0, rw e few.0)

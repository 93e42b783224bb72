use Rattle.std.proofs.Common.{arith}
use Rattle.stretches.proofs.SizeLaws.{product_next, product_all, few_more}
use Rattle.stretches.proofs.dims.Dims.tuples.Goals as goal

pub loop-d-preserved : goal.loop-d-preserved
loop-d-preserved c =
    let i = c.loop-d in
    (few_more i.many _ i.d-index (c.args.self.small.most i.d-index) i.invariant.0, product_next c.args.self.sizes.now i.d-index i.many _ c.loop-d-test.true i.invariant.1)

pub returns : goal.returns
returns c = product_all c.args.self.sizes.now c.loop-d.d-index _ _ (omega arith) c.loop-d.invariant.1

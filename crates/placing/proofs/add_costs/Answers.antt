use Rattle.std.proofs.Common.{arith, ◌∙◌, ◌≡◌, length}
use Rattle.placing.proofs.StretchLaws.{summed_none, summed_more, summed_all}
use Rattle.placing.proofs.add_costs.Goals as goal

pub loop-i-init : goal.loop-i-init
loop-i-init c = summed_none _ _ _

pub loop-i-preserved : goal.loop-i-preserved
loop-i-preserved c = summed_more _ _ _ _ _ _ c.loop-i.invariant c.plus_of.ensures (omega arith)

pub returns : goal.returns
returns c =
    let e : c.loop-i.i ≡ length c.args.stretch.now = omega arith in
    rw e at c.loop-i.invariant ∙ summed_all _ _ _

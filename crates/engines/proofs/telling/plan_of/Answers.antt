use Rattle.engines.proofs.ResultLaws.{plan_kept}
use Rattle.engines.proofs.telling.plan_of.Goals as goal

pub returns : goal.returns
returns c = plan_kept c.args.plan.now c.args.count _ c.told-plan c.requires c.copy_from_slice.ensures.after

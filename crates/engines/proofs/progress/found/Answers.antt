use Rattle.std.proofs.Common.{arith, [], ◌∷◌, ◌++◌, map}
use Rattle.records.specs.declared.steps.Step.TheVariants.{Shift, Close}
use Rattle.engines.specs.Ties.Progressing.{choices}
use Rattle.engines.proofs.ProgressLaws.{meets_found}
use Rattle.engines.proofs.progress.found.Goals as goal

pub returns : goal.returns
returns c = (c.take_choices.ensures.0, λ s xs e h. let a = c.args in meets_found a.asked a.vars a.from a.plan.now a.out.now s h c.close_noted.new.out c.take_choices.new.plan c.close_noted.result (map Shift xs ++ (Close ∷ [])) a.cost (choices a.node.now) (λ q. rw (← e q) (c.close_noted.ensures q)) (λ v l. c.take_choices.ensures.1 v (omega (arith, l))))

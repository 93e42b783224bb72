use Rattle.std.proofs.Common.{arith}
use Rattle.std.proofs.lemmas.Grind.{common_steps}
use Rattle.lines.specs.Lines.{written}
use Rattle.lines.proofs.LineLaws.{no_choices, choice_more}
use Rattle.lines.proofs.Lines.with_choices.Goals as goal

pub loop-choice-init : goal.loop-choice-init
loop-choice-init c = record {
  says = no_choices (written c.args.self) c.args.plan.choice;
  room = omega (arith, c.requires);
}

pub loop-choice-preserved : goal.loop-choice-preserved
loop-choice-preserved c = record {
  says = choice_more _ _ _ _ (grind (arith, common_steps));
  room = omega arith;
}

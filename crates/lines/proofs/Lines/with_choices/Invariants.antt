use Rattle.std.proofs.Common.{◌≡◌, ◌++◌, ◌+◌, ◌≤◌, ◌*◌}
use Rattle.lines.specs.Numerals.{numeral_most}
use Rattle.lines.specs.Room.{head_most}
use Rattle.lines.specs.Lines.{written, choices_to}
use Rattle.lines.proofs.Lines.with_choices.Given as goal

abbrev pub invariant-loop-choice : goal.invariant-loop-choice
invariant-loop-choice l = record {
  says : written l.with ≡ written l.fn.self ++ choices_to l.choice-index l.fn.plan.choice;
  room : l.with.len ≤ head_most + l.choice-index * (1 + numeral_most);
}

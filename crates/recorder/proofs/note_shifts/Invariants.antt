use Rattle.std.proofs.Common.{map, take}
use Rattle.records.specs.declared.steps.Step.TheVariants.{Shift}
use Rattle.recorder.specs.Ties.Splicing.{Adds}
use Rattle.recorder.proofs.note_shifts.Given as goal

abbrev pub invariant-loop-one : goal.invariant-loop-one
invariant-loop-one l = Adds l.initial.out l.initial.next l.out l.next (map Shift (take l.one-index l.shifts))

use Rattle.spelling.proofs.SteppingLaws.{Stands}
use Rattle.spelling.specs.Ties.Stepping.{claim_in}
use Rattle.spelling.specs.Spelling.{steps_fault}
use Rattle.records.specs.Trees.{root}
use Rattle.records.specs.Steps.{step_words, step_at}
use Rattle.records.specs.Words.{word_at}
use Rattle.std.proofs.Math.Option.{none}
use Rattle.std.proofs.Common.{◌≡◌, ◌+◌, ◌-◌, ◌*◌, [], ◌∷◌, length}
use Rattle.spelling.proofs.steps.steps_fault.Given as goal

abbrev pub invariant-loop-step : goal.invariant-loop-step
invariant-loop-step l =
    let r = claim_in l.claimed in
    let at = step_at (word_at l.bytes) in
    record {
      roomy : length l.work ≡ length l.initial.work;
      stands : Stands r at (steps_fault r at l.steps l.from (root r.net ∷ []) none) (l.steps - l.step) (l.from + step_words * l.step) l.place l.work;
    }

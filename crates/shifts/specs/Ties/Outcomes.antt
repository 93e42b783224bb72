-- Ties: what the code's Result says, as the paper's outcome: "Beside a refusal and its place, everything returned is zero."
use Rattle.std.specs.Prelude.{ℕ, Result, Ok, Err}
use Rattle.answers.specs.Answers.{Done}
use Rattle.answers.specs.declared.Refusal.{Refusal}
use Rattle.shifts.specs.declared.outcomes.Outcome.{Outcome}

abbrev pub told : Result ℕ Refusal → Outcome
told (Ok constant) = record { answer = Done; constant = constant }
told (Err refusal) = record { answer = Err refusal; constant = 0 }

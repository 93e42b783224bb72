-- Ties: what the code's result says, as the outcome of a step of reading.
use Rattle.std.specs.Prelude.{ℕ, Result, Ok, Err}
use Rattle.answers.specs.declared.Refusal.{Refusal}
use Rattle.tokens.specs.Steps.{Got, got, refused}

abbrev pub tuple_is : Result (ℕ × ℕ) Refusal → Got ℕ
tuple_is (Ok read) = got read.0 read.1
tuple_is (Err refusal) = refused refusal

-- Ties: what the code's results say, as outcomes of a step of reading.
use Rattle.std.specs.Prelude.{ℕ, Bool, true, false, Option, Some, None, Result, Ok, Err}
use Rattle.answers.specs.declared.Refusal.{Refusal}
use Rattle.tokens.specs.Steps.{Got, got, refused}
use Rattle.tokens.specs.declared.numbers.Seen.{Seen}

abbrev pub num_is : Result Seen Refusal → Got Seen
num_is (Ok x) = got x x.next
num_is (Err refusal) = refused refusal

abbrev pub pos_is : {A : Type 0} → Result ℕ Refusal → A → Got A
pos_is (Ok next) a = got a next
pos_is (Err refusal) a = refused refusal

abbrev pub word_is : {W : Type 0} → (W → ℕ) → Result (W × ℕ) Refusal → Got ℕ
word_is place (Ok found) = got (place found.0) found.1
word_is place (Err refusal) = refused refusal

-- where the word is not there, reading goes on where it was
abbrev pub follows_is : ℕ → Option ℕ → Got Bool
follows_is at (Some next) = got true next
follows_is at None = got false at

-- Ties: what the code's results say, as outcomes of a step of reading.
use Rattle.std.specs.Prelude.{ℕ, List, Result, Ok, Err}
use Rattle.answers.specs.declared.Refusal.{Refusal}
use Rattle.tokens.specs.Steps.{Got, got, refused}
use Rattle.headings.specs.Domains.{Sized}
use Rattle.headings.specs.declared.headers.Head.{Head}
use Rattle.headings.specs.declared.domains.Unary.{Unary}

abbrev pub header_is : Result (Head × ℕ) Refusal → Got Head
header_is (Ok read) = got read.0 read.1
header_is (Err refusal) = refused refusal

-- beside the sizes that the code left
abbrev pub domains_is : Result Unary Refusal → List ℕ → Got Sized
domains_is (Ok unary) sizes = got (record { entries = unary.entries; sizes = sizes }) unary.next
domains_is (Err refusal) sizes = refused refusal

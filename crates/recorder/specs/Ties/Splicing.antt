-- Ties: bytes written into a buffer, and where the record stands in it.
use Rattle.std.specs.Prelude.{ℕ, ◌+◌, ◌-◌, ◌*◌, ◌≤◌, ◌<◌, ◌≡◌, Bool, cond, Option, Some, None, IfSome, List, ◌++◌, leb, length, take, drop, replicate}
use Rattle.records.specs.declared.steps.Step.{Step}
use Rattle.records.specs.Words.{word_bytes, bytes_of}
use Rattle.records.specs.Steps.{step_words, spell}
use Rattle.records.specs.Records.{header_words}
use Rattle.costs.specs.Cheapest.{value_in}
use Rattle.costs.specs.Range.{list_to}

-- the buffer with xs at `at`
unfoldable pub spliced : ℕ → List ℕ → List ℕ → List ℕ
spliced at xs out = take at out ++ (xs ++ drop (at + length xs) out)

-- the bytes of a header and of a step
abbrev pub header_bytes : ℕ
header_bytes = header_words * word_bytes

abbrev pub step_bytes : ℕ
step_bytes = step_words * word_bytes

-- the steps stand behind a header's bytes, up to the spot
pub record HoldsSteps (out : List ℕ) (at : ℕ) (steps : List Step) : Type 0 where
  pub place : at ≡ header_bytes + step_bytes * length steps
  pub fits : at ≤ length out
  pub bytes : drop header_bytes (take at out) ≡ bytes_of (spell steps)

-- a header and the steps are longer than the buffer
abbrev pub TooLong : List ℕ → List Step → Type 0
TooLong out steps = length out < header_bytes + step_bytes * length steps

-- where the next step goes, or that there was no room for one
abbrev pub Spot : Type 0
Spot = Option ℕ

-- what a spot says of the steps of a record being written
abbrev pub Written : List ℕ → Spot → List Step → Type 0
Written out None steps = TooLong out steps
Written out (Some at) steps = HoldsSteps out at steps

-- where there was room for every step, the spot lies in the buffer, behind a header
abbrev pub Behind : List ℕ → Spot → Type 0
Behind out spot = IfSome spot (λ at. (header_bytes ≤ at) × (at ≤ length out))

-- from one buffer and spot to another, these steps were added, whatever stood there before
abbrev pub Adds : List ℕ → Spot → List ℕ → Spot → List Step → Type 0
Adds out spot out' spot' more = (steps : List Step) → Written out spot steps → Written out' spot' (steps ++ more)

-- the values of a plan that was found
abbrev pub values_of : ℕ → Bool → List ℕ → List ℕ
values_of vars found plan = list_to (cond found vars 0) (value_in plan)

-- "verdict (0 cheapest, 1 none)", by whether a plan was found
abbrev pub verdict_bit : Bool → ℕ
verdict_bit found = cond found 0 1

-- "whole record longer than the lent buffer" or not, and what the buffer then holds: the record and zeros, or zeros throughout
pub record Finished (bytes : List ℕ) (room : ℕ) (fits : Bool) (out : List ℕ) : Type 0 where
  pub fits_is : fits ≡ leb (length bytes) room
  pub holds : out ≡ cond fits (bytes ++ replicate (room - length bytes) 0) (replicate room 0)

-- "When the desk says no": this paper's number and place for each case of the answer; 0 and 0 where nothing is refused.
use Rattle.std.specs.Prelude.{ℕ, Result, Ok, Err}
use Rattle.answers.specs.declared.Refusal.{Refusal}
use Rattle.answers.specs.declared.Refusal.TheVariants.{LongText, BadToken, OutOfRange, Unfitting, ListedTwice, TextAfter, ShortTable, NotNetwork, BadPlan, Illegal, OverBudget, LongRecord, BrokenRule}

-- success, or a refusal
abbrev pub Answer : Type 0
Answer = Result (Unit {0}) Refusal

abbrev pub Done : Answer
Done = Ok tt

abbrev pub refusal_number : Refusal → ℕ
refusal_number LongText = 1
refusal_number (BadToken at) = 2
refusal_number (OutOfRange at) = 3
refusal_number (Unfitting at) = 4
refusal_number (ListedTwice at) = 5
refusal_number (TextAfter at) = 6
refusal_number ShortTable = 7
refusal_number NotNetwork = 8
refusal_number (BadPlan at) = 9
refusal_number Illegal = 10
refusal_number OverBudget = 11
refusal_number LongRecord = 12
refusal_number (BrokenRule at) = 13

abbrev pub refusal_place : Refusal → ℕ
refusal_place LongText = 0
refusal_place (BadToken at) = at
refusal_place (OutOfRange at) = at
refusal_place (Unfitting at) = at
refusal_place (ListedTwice at) = at
refusal_place (TextAfter at) = at
refusal_place ShortTable = 0
refusal_place NotNetwork = 0
refusal_place (BadPlan at) = at
refusal_place Illegal = 0
refusal_place OverBudget = 0
refusal_place LongRecord = 0
refusal_place (BrokenRule at) = at

abbrev pub number_of : Answer → ℕ
number_of (Ok done) = 0
number_of (Err refusal) = refusal_number refusal

abbrev pub place_of : Answer → ℕ
place_of (Ok done) = 0
place_of (Err refusal) = refusal_place refusal

-- Laws of answers and their numbers. Assumes nothing.
use mathlib.Core.Path.{◌≡◌, refl}
use native.Mathlib.Omega.{arith}
use mathlib.Core.Bool.{false}
use lib.Dec.{eqb}
use borrow.Author.Tests.{ne_eqb}
use Rattle.std.specs.Prelude.{Ok, Err}
use Rattle.answers.specs.declared.Refusal.{Refusal}
use Rattle.answers.specs.declared.Refusal.TheVariants.{LongText, BadToken, OutOfRange, Unfitting, ListedTwice, TextAfter, ShortTable, NotNetwork, BadPlan, Illegal, OverBudget, LongRecord, BrokenRule}
use Rattle.answers.specs.Answers.{Answer, Done, refusal_number, number_of}

-- no refusal has the number 0
pub refusal_numbered : (r : Refusal) → refusal_number r ≡ 0 → ⊥
refusal_numbered LongText e = omega arith
refusal_numbered (BadToken at) e = omega arith
refusal_numbered (OutOfRange at) e = omega arith
refusal_numbered (Unfitting at) e = omega arith
refusal_numbered (ListedTwice at) e = omega arith
refusal_numbered (TextAfter at) e = omega arith
refusal_numbered ShortTable e = omega arith
refusal_numbered NotNetwork e = omega arith
refusal_numbered (BadPlan at) e = omega arith
refusal_numbered Illegal e = omega arith
refusal_numbered OverBudget e = omega arith
refusal_numbered LongRecord e = omega arith
refusal_numbered (BrokenRule at) e = omega arith

-- so a test of it fails
pub refused_numbered : (r : Refusal) → eqb (refusal_number r) 0 ≡ false
refused_numbered r = ne_eqb _ _ (refusal_numbered r)

-- only success has the number 0
pub number_done : (a : Answer) → number_of a ≡ 0 → a ≡ Done
number_done (Ok done) e = refl
number_done (Err refusal) e = absurd (refusal_numbered refusal e)

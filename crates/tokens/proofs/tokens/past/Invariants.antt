use Rattle.std.proofs.Common.{◌≡◌, ℕ, ◌≤◌, Bool, max, length}
use Rattle.tokens.specs.Tokens.{past}
use Rattle.tokens.proofs.tokens.past.Given as goal

abbrev pub invariant-loop-i : goal.invariant-loop-i
invariant-loop-i g l = record {
  most : l.i ≤ max l.at (length l.text);
  so_far : (test : ℕ → Bool) → ((b : ℕ) (r : Bool) → goal.F-post g l.passes b r → r ≡ test b) → past test l.text l.at ≡ past test l.text l.i;
}

-- Numbers. Document 01: "A number is 1 to 13 decimal digits; leading zeros are allowed."
use Rattle.std.specs.Prelude.{ℕ, ◌+◌, ◌-◌, ◌*◌, List, [], ◌∷◌, Option, Some, None, cond, length}
use Rattle.answers.specs.declared.Refusal.TheVariants.{BadToken, OutOfRange}
use Rattle.costs.specs.Tests.{between}
use Rattle.tokens.specs.TextLimits.{digits_most}
use Rattle.tokens.specs.Tokens.{Next}
use Rattle.tokens.specs.Steps.{Got, got, refused, Reads, ◌>>=◌, ◌>>◌, pure, demand}
use Rattle.tokens.specs.declared.numbers.Seen.{Seen}

-- the value of decimal digits after a value v; none where a byte is no digit
unfoldable pub digits : ℕ → List ℕ → Option ℕ
digits v [] = Some v
digits v (b ∷ w) = cond (between 48 57 b) (digits (v * 10 + (b - 48)) w) None

-- what a run of bytes is as a number
unfoldable pub value_of : List ℕ → Option ℕ
value_of w = cond (between 1 digits_most (length w)) (digits 0 w) None

-- "token missing or not of its kind": 2 at the token's offset, or at the text's length
abbrev pub taken : Next → Option ℕ → Got Seen
taken t None = refused (BadToken t.start)
taken t (Some v) = got (record { value = v; place = t.start; next = t.end }) t.end

-- any number: its value and its place
unfoldable pub any_number : Reads Seen
any_number text at = taken (text at) (value_of (text at).bytes)

-- a number of least to most: 2, then 3
unfoldable pub number_in : ℕ → ℕ → Reads Seen
number_in least most = do
  x ← any_number
  demand (between least most x.value) (OutOfRange x.place)
  pure x

-- Tokens of a text, by byte position. Document 01: "Tokens are runs of bytes other than space, tab, LF and CR."
use Rattle.std.specs.Prelude.{ℕ, suc, ◌+◌, ◌-◌, List, [], ◌∷◌, Bool, cond, not, ◌||◌, take, drop, eqb}
use Rattle.tokens.specs.declared.tokens.Token.{Token}

-- space, tab, LF, CR
unfoldable pub white : ℕ → Bool
white b = eqb b 32 || eqb b 9 || eqb b 10 || eqb b 13

unfoldable pub dark : ℕ → Bool
dark b = not (white b)

-- how many bytes at the front of a text pass a test
unfoldable pub lead : (ℕ → Bool) → List ℕ → ℕ
lead p [] = 0
lead p (b ∷ s) = cond (p b) (suc (lead p s)) 0

-- the first position from `at` on whose byte does not pass; where all pass, the text's length, of an `at` that is not past it
unfoldable pub past : (ℕ → Bool) → List ℕ → ℕ → ℕ
past p s at = at + lead p (drop at s)

-- the next token from a position on: from the first dark byte up to the next white one. Where none is left, it starts and ends there
unfoldable pub token_at : List ℕ → ℕ → Token
token_at s at = record { start = past white s at; end = past dark s (past white s at) }

unfoldable pub token_bytes : List ℕ → Token → List ℕ
token_bytes s t = take (t.end - t.start) (drop t.start s)

-- a token and its bytes
pub record Next : Type 0 where
  pub start : ℕ
  pub end : ℕ
  pub bytes : List ℕ

-- all that reading looks at: the next token from each position on
abbrev pub Text : Type 0
Text = ℕ → Next

unfoldable pub text_of : List ℕ → Text
text_of s at = record { start = (token_at s at).start; end = (token_at s at).end; bytes = token_bytes s (token_at s at) }

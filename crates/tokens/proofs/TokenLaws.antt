-- Laws of `token_at` and of what reading sees of a token. Assumes nothing.
use Rattle.std.proofs.Common.{ℕ, ◌≤◌, ◌<◌, ◌≡◌, List, [], sub-eq-zero_of_le, length}
use Rattle.tokens.specs.declared.tokens.Token.{Token}
use Rattle.tokens.specs.Tokens.{dark, token_at, token_bytes, text_of}
use Rattle.tokens.proofs.PastLaws.{past_in}

inside : (s : List ℕ) (at : ℕ) → (token_at s at).start < (token_at s at).end → (token_at s at).end ≤ length s
unfolding token_at
inside s at h = past_in dark s _ h

-- a token that is there ends within the text
pub within : (s : List ℕ) (at : ℕ) (t : Token) → t ≡ token_at s at → t.start < t.end → t.end ≤ length s
within s at t e = rw e (inside s at)

-- one that is not there has no bytes
pub no_bytes : (s : List ℕ) (t : Token) → t.end ≤ t.start → token_bytes s t ≡ []
unfolding token_bytes
no_bytes s t h = rw (sub-eq-zero_of_le h)

-- what reading sees where a token and its bytes were found
pub seen : (s : List ℕ) (at : ℕ) (t : Token) (w : List ℕ) → t ≡ token_at s at → w ≡ token_bytes s t
    → text_of s at ≡ record { start = t.start; end = t.end; bytes = w }
unfolding text_of
seen s at t w e f = rw (f, e)

-- What a token is: "runs of bytes other than space, tab, LF and CR", as long as can be.
use Rattle.std.specs.Prelude.{ℕ, suc, ◌≤◌, ◌<◌, ◌≡◌, Bool, true, ◌⊎◌, List, length, get_or}
use Rattle.tokens.specs.declared.tokens.Token.{Token}
use Rattle.tokens.specs.Tokens.{white, dark, token_at}

-- every byte from a up to b passes a test
pub record Passes (p : ℕ → Bool) (s : List ℕ) (a b : ℕ) : Type 0 where
  pub each : (i : ℕ) → a ≤ i → i < b → p (get_or s i 0) ≡ true

-- a run of dark bytes that no dark byte continues
pub record Run (s : List ℕ) (t : Token) : Type 0 where
  pub some : t.start < t.end
  pub in_text : t.end ≤ length s
  pub filled : Passes dark s t.start t.end
  pub begins : (t.start ≡ 0) ⊎ ((i : ℕ) → suc i ≡ t.start → white (get_or s i 0) ≡ true)
  pub ends : t.end < length s → white (get_or s t.end 0) ≡ true

-- the positions that reading comes to: the start, and after each token its end
pub data Reached (s : List ℕ) : ℕ → Type 0 where
  begin : Reached s 0
  after : (at : ℕ) → Reached s at → Reached s (token_at s at).end

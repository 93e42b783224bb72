-- Steps of reading. A step goes from a text and a byte position to a value with the position to read on from, or to a refusal. `do` joins steps:
-- the first that refuses ends the reading. So "the first offending token, lowest number first" is the order in which the steps are written.
use Rattle.std.specs.Prelude.{ℕ, Bool, cond, ◌||◌, ltb}
use Rattle.answers.specs.declared.Refusal.{Refusal}
use Rattle.tokens.specs.Tokens.{Text}

infixl 10 ◌>>=◌
infixl 10 ◌>>◌
pub data Got (A : Type 0) : Type 0 where
  got : A → ℕ → Got A
  refused : Refusal → Got A

abbrev pub Reads : Type 0 → Type 0
Reads A = Text → ℕ → Got A

unfoldable pub and_then : {A B : Type 0} → Got A → (A → ℕ → Got B) → Got B
and_then (got a at) f = f a at
and_then (refused refusal) f = refused refusal

abbrev pub ◌>>=◌ : {A B : Type 0} → Reads A → (A → Reads B) → Reads B
◌>>=◌ m f text at = and_then (m text at) (λ a next. f a text next)

abbrev pub ◌>>◌ : {A B : Type 0} → Reads A → Reads B → Reads B
◌>>◌ m f text at = and_then (m text at) (λ a next. f text next)

abbrev pub pure : {A : Type 0} → A → Reads A
pure a text at = got a at

-- what has to hold where reading has come to, or else the refusal
unfoldable pub demand : Bool → Refusal → Reads (Unit {0})
demand holds refusal text at = cond holds (got tt at) (refused refusal)

-- what is judged at the last token of some, with so many of them after this one: "E is judged at the last size and at each arity 2 or 3
-- function's last scope token"
abbrev pub at_last : ℕ → Bool → Bool
at_last left holds = ltb 0 left || holds

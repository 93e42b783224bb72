use Rattle.std.proofs.Common.{ℕ, List, ◌≡◌, ap, ◌∙◌, rules}
use Rattle.tokens.specs.Tokens.{white, dark, past, token_at}
use Rattle.tokens.specs.declared.tokens.Token.{Token}
use Rattle.tokens.proofs.tokens.next_token.Goals as goal

found : (s : List ℕ) (at a e : ℕ) → a ≡ past white s at → e ≡ past dark s a → ◌≡◌ {A = Token} (record { start = a; end = e }) (token_at s at)
unfolding token_at
found s at a e p q = λ i. record { start = p i; end = (q ∙ ap (past dark s) p) i }

pub returns : goal.returns
unfolding dark
returns c = found _ _ _ _ (c.past-start.ensures white (λ b r q. search rules)) (c.past-end.ensures dark (λ b r q. search rules))

-- Tokens that are names or words; words are exact bytes.
use Rattle.std.specs.Prelude.{ℕ, suc, List, [], ◌∷◌, Bool, true, false, Option, Some, None, cond, ◌&&◌, length, ltb, eqb}
use Rattle.answers.specs.declared.Refusal.TheVariants.{BadToken, TextAfter}
use Rattle.tokens.specs.Steps.{Got, got, refused, Reads}
use Rattle.tokens.specs.Names.{is_name}

-- the next token, which has to be a name: 2 where it is "missing or not of its kind", whatever is wrong with it
unfoldable pub name : Reads (Unit {0})
name text at = cond (is_name (text at).bytes) (got tt (text at).end) (refused (BadToken (text at).start))

-- whether two runs of bytes are the same
unfoldable pub same : List ℕ → List ℕ → Bool
same [] [] = true
same [] (c ∷ w) = false
same (b ∷ v) [] = false
same (b ∷ v) (c ∷ w) = eqb b c && same v w

-- which of some words a run of bytes is; their number where it is none
unfoldable pub place_among : List (List ℕ) → List ℕ → ℕ
place_among [] w = 0
place_among (v ∷ vs) w = cond (same w v) 0 (suc (place_among vs w))

-- the same; none where it is none of them
abbrev pub word_at : List (List ℕ) → List ℕ → Option ℕ
word_at ws w = cond (ltb (place_among ws w) (length ws)) (Some (place_among ws w)) None

-- the next token, as the word that it is among so many: 2 where it is none
abbrev pub word_among : ℕ → ℕ → ℕ → ℕ → Got ℕ
word_among many i start end = cond (ltb i many) (got i end) (refused (BadToken start))

unfoldable pub word : List (List ℕ) → Reads ℕ
word ws text at = word_among (length ws) (place_among ws (text at).bytes) (text at).start (text at).end

-- whether the next token is this word, which is then passed; any other token stays
unfoldable pub follows : List ℕ → Reads Bool
follows w text at = cond (same (text at).bytes w) (got true (text at).end) (got false at)

-- "text after the last function": 6
unfoldable pub finish : Reads (Unit {0})
finish text at = cond (ltb 0 (length (text at).bytes)) (refused (TextAfter (text at).start)) (got tt at)

-- `same` decides whether two runs of bytes are equal, and a word is told by its place among some. Assumes nothing.
use Rattle.std.specs.Prelude.{Option, Some, None}
use Rattle.std.proofs.Common.{ℕ, ◌≡◌, refl, ap, List, [], ◌∷◌, Bool, true, false, cond, ◌&&◌, eqb, ltb, length, get_or, drop, arith}
use Rattle.std.specs.Cmp.Lexicographic.{pointwise}
use Rattle.answers.specs.declared.Refusal.TheVariants.{BadToken}
use Rattle.costs.specs.Tests.{Decides}
use Rattle.costs.proofs.TestLaws.{by_map, by_and, by_eqb}
use Rattle.tokens.specs.Steps.{Got, got, refused}
use Rattle.tokens.specs.Words.{same, place_among, word_at, word_among}

pub by_same : (v w : List ℕ) → Decides (same v w) (v ≡ w)
unfolding same
by_same [] [] = record { says = λ t. refl; finds = λ e. tt }
by_same [] (c ∷ w) = record { says = λ t. absurd t; finds = λ e. absurd (omega (arith, ap length e)) }
by_same (b ∷ v) [] = record { says = λ t. absurd t; finds = λ e. absurd (omega (arith, ap length e)) }
by_same (b ∷ v) (c ∷ w) = by_map (λ h. rw (h.0, h.1)) (λ e. (ap (λ (l : List ℕ). get_or l 0 0) e, ap (λ (l : List ℕ). drop 1 l) e)) (by_and (by_eqb b c) (by_same v w))

-- it is what `==` of two slices says
pub same_pointwise : (v w : List ℕ) → pointwise eqb v w ≡ same v w
unfolding same
same_pointwise [] [] = refl
same_pointwise [] (c ∷ w) = refl
same_pointwise (b ∷ v) [] = refl
same_pointwise (b ∷ v) (c ∷ w) = ap (λ r. eqb b c && r) (same_pointwise v w)

-- what the word that a token is among some leads to
abbrev pub told : ℕ → ℕ → Option ℕ → Got ℕ
told start end None = refused (BadToken start)
told start end (Some i) = got i end

pub word_told : (ws : List (List ℕ)) (w : List ℕ) (start end : ℕ) → word_among (length ws) (place_among ws w) start end ≡ told start end (word_at ws w)
word_told ws w start end = go (ltb (place_among ws w) (length ws)) (place_among ws w)
  where
    go : (b : Bool) (i : ℕ) → cond b (got i end) (refused (BadToken start)) ≡ told start end (cond b (Some i) None)
    go true i = refl
    go false i = refl

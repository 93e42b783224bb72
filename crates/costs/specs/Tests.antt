-- Tests of numbers and lists, and what a test decides.
use Rattle.std.specs.Prelude.{ℕ, Bool, true, false, not, ◌&&◌, ◌||◌, ◌≢◌, List, [], ◌∷◌, T, leb, eqb}
use Rattle.costs.specs.Net.{All}

-- a test and the fact that it decides
pub record Decides (b : Bool) (A : Type 0) : Type 0 where
  pub says : T b → A
  pub finds : A → T b

abbrev pub between : ℕ → ℕ → ℕ → Bool
between lo hi x = leb lo x && leb x hi

-- each of a list passes a test
abbrev pub every : (ℕ → Bool) → List ℕ → Bool
every t [] = true
every t (v ∷ vs) = t v && every t vs

-- v stands in a list
abbrev pub among : ℕ → List ℕ → Bool
among v [] = false
among v (w ∷ ws) = eqb v w || among v ws

-- none of a list stands in it twice
abbrev pub different : List ℕ → Bool
different [] = true
different (v ∷ vs) = not (among v vs) && different vs

-- the same as a fact
abbrev pub Different : List ℕ → Type 0
Different [] = Unit {0}
Different (v ∷ vs) = All (λ w. v ≢ w) vs × Different vs

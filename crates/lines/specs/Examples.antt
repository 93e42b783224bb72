-- Lines of document 01, computed from the definitions.
use Rattle.std.specs.Prelude.{◌≡◌, refl, [], ◌∷◌, Err}
use Rattle.answers.specs.declared.Refusal.TheVariants.{BadToken}
use Rattle.lines.specs.Numerals.{shortest, numeral}
use Rattle.lines.specs.Lines.{refusal_line}

-- "A refusal prints `refused 2 at 0` alone"
lines_refused : refusal_line (Err (BadToken 0)) ≡ 114 ∷ 101 ∷ 102 ∷ 117 ∷ 115 ∷ 101 ∷ 100 ∷ 32 ∷ 50 ∷ 32 ∷ 97 ∷ 116 ∷ 32 ∷ 48 ∷ 10 ∷ []
unfolding shortest
lines_refused = refl

-- the greatest number of 64 bits
longest : numeral 18_446_744_073_709_551_615 ≡ 49 ∷ 56 ∷ 52 ∷ 52 ∷ 54 ∷ 55 ∷ 52 ∷ 52 ∷ 48 ∷ 55 ∷ 51 ∷ 55 ∷ 48 ∷ 57 ∷ 53 ∷ 53 ∷ 49 ∷ 54 ∷ 49 ∷ 53 ∷ []
unfolding shortest
longest = refl

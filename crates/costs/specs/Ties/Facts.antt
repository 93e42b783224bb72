-- Ties: what is said of a network's sizes and scopes has one proof at most, so that a struct may keep it.
use Rattle.std.specs.Prelude.{ℕ, ◌<◌, List, [], ◌∷◌}
use Rattle.std.specs.Coded.{×_prop, Unit-prop, le_prop}
use Rattle.costs.specs.Net.{All}

pub all_below_prop : (most : ℕ) (vs : List ℕ) → IsProp (All (λ v. v < most) vs)
all_below_prop most [] = Unit-prop
all_below_prop most (v ∷ vs) = ×_prop le_prop (all_below_prop most vs)

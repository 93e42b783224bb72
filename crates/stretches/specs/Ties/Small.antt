-- Ties: what is known of the sizes that a text gives its variables, and of those of one scope.
use Rattle.std.specs.Prelude.{ℕ, ◌≤◌, ◌<◌, List, length, get_or}
use Rattle.costs.specs.Limits.{vars_most, size_most, arity_most}

-- of all variables
pub record Ranged (vars : ℕ) (sizes : List ℕ) : Type 0 where
  pub vars_few : vars ≤ vars_most
  pub sized : (v : ℕ) → v < vars → 1 ≤ get_or sizes v 0
  pub small : (v : ℕ) → get_or sizes v 0 ≤ size_most

-- of one scope's
pub record Small (ds : List ℕ) : Type 0 where
  pub few : length ds ≤ arity_most
  pub some : (j : ℕ) → j < length ds → 1 ≤ get_or ds j 0
  pub most : (j : ℕ) → get_or ds j 0 ≤ size_most

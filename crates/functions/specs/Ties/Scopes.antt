-- Ties: what is known of a scope that was read beside a draft.
use Rattle.std.specs.Prelude.{◌+◌, ◌≤◌, ◌<◌, ℕ, List, length}
use Rattle.costs.specs.Limits.{arity_most, entries_most}
use Rattle.costs.specs.Net.{All}
use Rattle.stretches.specs.Sizes.{product}
use Rattle.scopes.specs.Scopes.{scope_sizes}
use Rattle.placing.specs.declared.Sheet.{Sheet}

pub record Told (s : Sheet) (scope : List ℕ) : Type 0 where
  pub few : length scope ≤ arity_most
  pub known : All (λ v. v < s.network.vars) scope
  pub room : 2 ≤ length scope → s.entries + product (scope_sizes s.network.sizes scope) ≤ entries_most

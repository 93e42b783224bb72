-- Ties: what is known of a scope that was read.
use Rattle.std.specs.Prelude.{ℕ, ◌+◌, ◌≤◌, ◌<◌, ◌≡◌, List, T, length}
use Rattle.costs.specs.Limits.{entries_most}
use Rattle.costs.specs.Net.{All}
use Rattle.costs.specs.Tests.{different}
use Rattle.stretches.specs.Sizes.{product}
use Rattle.scopes.specs.Scopes.{scope_sizes}

-- so many variables more, after those of xs: the scope ys
pub record Known (vars : ℕ) (sizes : List ℕ) (entries left : ℕ) (xs ys : List ℕ) : Type 0 where
  pub count : length ys ≡ length xs + left
  pub known : All (λ v. v < vars) xs → All (λ v. v < vars) ys
  pub distinct : T (different xs) → T (different ys)
  pub room : 1 ≤ left → 2 ≤ length ys → entries + product (scope_sizes sizes ys) ≤ entries_most

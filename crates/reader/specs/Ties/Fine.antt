-- Ties: what is known of costs that were read, and of a draft that is a network so far.
use Rattle.std.specs.Prelude.{ℕ, ◌+◌, ◌*◌, ◌≤◌, ◌<◌, ◌≡◌, List, T, length, get_or}
use Rattle.costs.specs.Limits.{vars_most, size_most, arity_most, row_places, functions_most, cost_most, entries_most}
use Rattle.costs.specs.Net.{All, start, entries}
use Rattle.costs.specs.Networks.{in_row, scope_in, stands}
use Rattle.costs.specs.Tests.{different}
use Rattle.placing.specs.Drafts.{Draft}

-- each cost of a list is at most k
abbrev pub Capped : ℕ → List ℕ → Type 0
Capped top cs = All (λ c. c ≤ top) cs

pub record Costed (top many : ℕ) (cs : List ℕ) : Type 0 where
  pub many_are : length cs ≡ many
  pub capped : Capped top cs

-- a draft that is a network so far, with so many functions to come
pub record Fine (left : ℕ) (d : Draft) : Type 0 where
  pub top_some : 1 ≤ d.net.top
  pub top_most : d.net.top ≤ cost_most
  pub constant : d.net.constant ≤ d.net.top
  pub vars_few : d.net.vars ≤ vars_most
  pub functions_few : d.net.functions + left ≤ functions_most
  pub some : (v : ℕ) → v < d.net.vars → 1 ≤ get_or d.net.sizes v 0
  pub most : (v : ℕ) → get_or d.net.sizes v 0 ≤ size_most
  pub rows_long : length d.net.scopes ≡ functions_most * row_places
  pub starts_long : length d.net.starts ≡ functions_most
  pub arities : (f : ℕ) → f < d.net.functions → (2 ≤ in_row d.net.scopes f 0) × (in_row d.net.scopes f 0 ≤ arity_most)
  pub known : (f : ℕ) → f < d.net.functions → All (λ v. v < d.net.vars) (scope_in (in_row d.net.scopes f))
  pub distinct : (f : ℕ) → f < d.net.functions → T (different (scope_in (in_row d.net.scopes f)))
  pub placed_at : (f : ℕ) → f < d.net.functions → get_or d.net.starts f 0 ≡ start (stands d.net) (d.net.vars + f)
  pub few : length d.table ≤ entries_most
  pub whole : length d.table ≡ entries (stands d.net)
  pub capped : Capped d.net.top d.table

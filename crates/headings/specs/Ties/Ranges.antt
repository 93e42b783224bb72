-- Ties: what is known of a header and of sizes that were read.
use Rattle.std.specs.Prelude.{ℕ, ◌≤◌, ◌<◌, ◌≡◌, length, get_or}
use Rattle.costs.specs.Limits.{vars_most, size_most, functions_most, cost_most}
use Rattle.costs.specs.Range.{sum_to}
use Rattle.headings.specs.Domains.{Sized}
use Rattle.headings.specs.declared.headers.Head.{Head}

pub record InRange (head : Head) : Type 0 where
  pub vars_few : head.vars ≤ vars_most
  pub functions_few : head.functions ≤ functions_most
  pub top_some : 1 ≤ head.top
  pub top_most : head.top ≤ cost_most

-- sizes that were read, so many of them
pub record Good (v : ℕ) (z : Sized) : Type 0 where
  pub long : length z.sizes ≡ vars_most
  pub some : (w : ℕ) → w < v → 1 ≤ get_or z.sizes w 0
  pub most : (w : ℕ) → get_or z.sizes w 0 ≤ size_most
  pub summed : z.entries ≡ sum_to v (λ w. get_or z.sizes w 0)

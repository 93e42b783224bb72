-- How many entries a function's stretch has: one for each tuple of its scope's sizes.
use Rattle.std.specs.Prelude.{ℕ, List}
use Rattle.costs.specs.Net.{tuples}

-- how many tuples variables of these sizes have
unfoldable pub product : List ℕ → ℕ
product ds = tuples (λ d. d) ds

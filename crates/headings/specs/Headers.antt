-- The header: "name (1 to 64 bytes), N (0 to 64), greatest domain size (0 to 16), number of functions (0 to 256), k (1 to 1,000,000,000,000)"; the
-- bytes of a name by request M-101.
use Rattle.std.specs.Prelude.{eqb}
use Rattle.costs.specs.Limits.{vars_most, size_most, functions_most, cost_most}
use Rattle.answers.specs.declared.Refusal.TheVariants.{Unfitting}
use Rattle.tokens.specs.Steps.{Reads, ◌>>=◌, ◌>>◌, pure, demand, at_last}
use Rattle.tokens.specs.Numbers.{number_in}
use Rattle.tokens.specs.Words.{name}
use Rattle.headings.specs.declared.headers.Head.{Head}

-- "the greatest size at the last size token, or at its own token if N is 0": there it is 0
unfoldable pub header : Reads Head
header = do
  name
  vars ← number_in 0 vars_most
  greatest ← number_in 0 size_most
  demand (at_last vars.value (eqb greatest.value 0)) (Unfitting greatest.place)
  functions ← number_in 0 functions_most
  top ← number_in 1 cost_most
  pure (record { vars = vars.value; greatest = greatest.value; functions = functions.value; top = top.value })

-- The functions of the text, one after the other.
use Rattle.std.specs.Prelude.{ℕ, zero, suc, List, [], length}
use Rattle.costs.specs.Limits.{arity_most}
use Rattle.tokens.specs.Steps.{Got, got, refused, Reads, ◌>>=◌, pure}
use Rattle.tokens.specs.Numbers.{number_in}
use Rattle.scopes.specs.Scopes.{scope_sizes, scope}
use Rattle.function_costs.specs.FunctionCosts.{costs}
use Rattle.placing.specs.Drafts.{Draft, put}

-- where the costs were read, they are put where they belong
abbrev pub placed : Draft → List ℕ → Got (List ℕ) → Got Draft
placed d xs (got cs next) = got (put d xs cs) next
placed d xs (refused refusal) = refused refusal

unfoldable pub function : Draft → Reads Draft
function d = do
  arity ← number_in 0 arity_most
  xs ← scope d.net.vars d.net.sizes (length d.table) arity.value []
  λ text at. placed d xs (costs d.net.top (scope_sizes d.net.sizes xs) text at)

unfoldable pub functions : ℕ → Draft → Reads Draft
functions zero d = pure d
functions (suc left) d = do
  d' ← function d
  functions left d'

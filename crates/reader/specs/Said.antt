-- What a text says, function by function, with no table in mind. The header and a soft sum's numbers are read as reading reads them; of the rest nothing is
-- judged but a token's kind.
use Rattle.std.specs.Prelude.{ℕ, zero, suc, ◌+◌, ◌<◌, min, ◌≡◌, cond, List, [], ◌∷◌, map, length, get_or}
use Rattle.costs.specs.declared.networks.Network.{Network}
use Rattle.costs.specs.Net.{IsPlan, costs_of, price}
use Rattle.costs.specs.Networks.{stands}
use Rattle.tokens.specs.Tokens.{text_of}
use Rattle.tokens.specs.Steps.{Reads, got, ◌>>=◌, ◌>>◌, pure}
use Rattle.tokens.specs.Numbers.{any_number}
use Rattle.tokens.specs.Words.{same, word, follows}
use Rattle.headings.specs.Headers.{header}
use Rattle.soft_sums.specs.Soft.{soft_sum, gap, gap_cost, total}
use Rattle.function_costs.specs.FunctionCosts.{mark, keywords}

-- a function: its variables, and its cost for the values of these in scope order
pub record SaidFunction : Type 0 where
  pub scope : List ℕ
  pub cost : List ℕ → ℕ

pub record SaidNetwork : Type 0 where
  pub top : ℕ
  pub sizes : List ℕ
  pub functions : List SaidFunction

-- a listed tuple: "its values in scope order and its cost"
pub record SaidTuple : Type 0 where
  pub values : List ℕ
  pub cost : ℕ

-- so many numbers
unfoldable pub numbers : ℕ → Reads (List ℕ)
numbers zero = pure []
numbers (suc left) = do
  x ← any_number
  xs ← numbers left
  pure (x.value ∷ xs)

-- so many tuples of a scope of so many variables
unfoldable pub said_tuples : ℕ → ℕ → Reads (List SaidTuple)
said_tuples arity zero = pure []
said_tuples arity (suc left) = do
  values ← numbers arity
  cost ← any_number
  ts ← said_tuples arity left
  pure (record { values = values; cost = cost.value } ∷ ts)

-- "An unlisted tuple has the default."
abbrev pub cost_among : ℕ → List SaidTuple → List ℕ → ℕ
cost_among default [] values = default
cost_among default (t ∷ ts) values = cond (same values t.values) t.cost (cost_among default ts values)

unfoldable pub said_listed : ℕ → Reads (List ℕ → ℕ)
said_listed arity = do
  default ← any_number
  many ← any_number
  ts ← said_tuples arity many.value
  pure (cost_among default.value ts)

-- "Soft sum, Sum being the total of the values"
unfoldable pub said_soft : ℕ → Reads (List ℕ → ℕ)
said_soft top = do
  word keywords
  soft ← soft_sum
  pure (λ values. gap_cost top soft.mode soft.base (gap soft.comparator soft.limit (total values)))

-- "In place of default and count, arity 1 to 3 may have `-1 ..`"
unfoldable pub said_costs : ℕ → ℕ → Reads (List ℕ → ℕ)
said_costs top zero = said_listed 0
said_costs top (suc more) = do
  is-marked ← follows mark
  cond is-marked (said_soft top) (said_listed (suc more))

unfoldable pub said_function : ℕ → Reads SaidFunction
said_function top = do
  arity ← any_number
  scope ← numbers arity.value
  cost ← said_costs top arity.value
  pure (record { scope = scope; cost = cost })

unfoldable pub said_functions : ℕ → ℕ → Reads (List SaidFunction)
said_functions top zero = pure []
said_functions top (suc left) = do
  f ← said_function top
  fs ← said_functions top left
  pure (f ∷ fs)

unfoldable pub said : Reads SaidNetwork
said = do
  head ← header
  sizes ← numbers head.vars
  fs ← said_functions head.top head.functions
  pure (record { top = head.top; sizes = sizes; functions = fs })

-- what the functions cost a plan, each by the plan's values of its variables
abbrev pub cost_said : List SaidFunction → (ℕ → ℕ) → ℕ
cost_said [] p = 0
cost_said (f ∷ fs) p = f.cost (map p f.scope) + cost_said fs p

-- the price of a plan, as the text says it: the capped sum
abbrev pub price_said : SaidNetwork → (ℕ → ℕ) → ℕ
price_said n p = min n.top (cost_said n.functions p)

-- what a text says, beside a network and a table: k, the sizes, and the price of every plan
pub record SaidBy (text : List ℕ) (net : Network) (table : List ℕ) : Type 0 where
  pub spelt : SaidNetwork
  pub end : ℕ
  pub says : said (text_of text) 0 ≡ got spelt end
  pub top : net.top ≡ spelt.top
  pub vars : net.vars ≡ length spelt.sizes
  pub sizes : (v : ℕ) → v < net.vars → get_or net.sizes v 0 ≡ get_or spelt.sizes v 0
  pub prices : (p : ℕ → ℕ) → IsPlan (stands net) p → price (stands net) (costs_of net.constant table) p ≡ price_said spelt p

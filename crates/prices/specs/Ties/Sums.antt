-- Ties: how the code's running sum stands for a plan's.
use Rattle.std.specs.Prelude.{ℕ, cond, List, leb}
use Rattle.costs.specs.declared.networks.Network.{Network}
use Rattle.costs.specs.Cost.{plus}
use Rattle.costs.specs.Net.{Net, Costs, costs_of, running_sum}
use Rattle.costs.specs.Networks.{stands}
use Rattle.costs.specs.Cheapest.{value_in}
use Rattle.prices.specs.declared.breaks.Break.{Break}
use Rattle.prices.specs.declared.breaks.Break.TheVariants.{Nowhere, Constant}
use Rattle.prices.specs.declared.sums.Sum.{Sum}
use Rattle.prices.specs.Breaks.{broke_by}

-- the part, where the sum with its cost reaches k
abbrev pub named_at : ℕ → ℕ → Break → Break
named_at top price part = cond (leb top price) part Nowhere

abbrev pub begun_with : ℕ → ℕ → Sum
begun_with top constant = record { price = plus top 0 constant; broke = named_at top (plus top 0 constant) Constant }

abbrev pub added_to : ℕ → Sum → ℕ → Break → Sum
added_to top x cost part = record { price = plus top x.price cost; broke = cond (leb top x.price) x.broke (named_at top (plus top x.price cost) part) }

-- a plan's running sum after s parts, and where it broke
abbrev pub sum_after : Net → Costs → (ℕ → ℕ) → ℕ → Sum
sum_after n c p s = record { price = running_sum n c p s; broke = broke_by n c p s }

-- the same of a network, a table and a plan's choices
abbrev pub sum_in : Network → List ℕ → List ℕ → ℕ → Sum
sum_in net t choice s = sum_after (stands net) (costs_of net.constant t) (value_in choice) s

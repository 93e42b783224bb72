-- Where the plans of networks A and C of document 01 break, computed from the definitions.
use Rattle.std.specs.Prelude.{ℕ, ◌≡◌, refl, List, [], ◌∷◌}
use Rattle.costs.specs.Net.{Costs, costs_of, running_sum}
use Rattle.costs.specs.Networks.{stands}
use Rattle.costs.specs.Cheapest.{value_in}
use Rattle.costs.specs.PaperNetworks.{network_a, table_a, network_c, table_c}
use Rattle.prices.specs.declared.breaks.Break.{Break}
use Rattle.prices.specs.declared.breaks.Break.TheVariants.{Nowhere, Constant, Unary, Function}
use Rattle.prices.specs.Breaks.{broke_by, broke_at}

abbrev costs_a : Costs
costs_a = costs_of network_a.constant table_a

abbrev sums_a : List ℕ → List ℕ
sums_a plan = let sum = running_sum (stands network_a) costs_a (value_in plan) in sum 0 ∷ sum 1 ∷ sum 2 ∷ sum 3 ∷ sum 4 ∷ sum 5 ∷ []

abbrev broke_a : List ℕ → Break
broke_a plan = broke_at (stands network_a) costs_a (value_in plan)

-- "Network A, plan 110: constant 1, unary 4, function 0 makes 9, function 1 reaches 10"
sums_110 : sums_a (1 ∷ 1 ∷ 0 ∷ []) ≡ 1 ∷ 4 ∷ 4 ∷ 4 ∷ 9 ∷ 10 ∷ []
sums_110 = refl

-- "so function 1"; plan 111 is priced 9, the dearest below k
broke_110 : broke_a (1 ∷ 1 ∷ 0 ∷ []) ∷ broke_a (1 ∷ 1 ∷ 1 ∷ []) ∷ [] ≡ Function 1 ∷ Nowhere ∷ []
unfolding broke_by
broke_110 = refl

-- the one plan of network C breaks at its unary cost; beside a constant that is k, at the constant
broke_C : broke_at (stands network_c) (costs_of 0 table_c) (value_in (0 ∷ [])) ∷ broke_at (stands network_c) (costs_of 5 table_c) (value_in (0 ∷ [])) ∷ [] ≡ Unary 0 ∷ Constant ∷ []
unfolding broke_by
broke_C = refl

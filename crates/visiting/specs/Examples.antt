-- The searches of networks A, B and C of document 01, "Reckoned by hand", computed from the definitions.
use Rattle.std.specs.Prelude.{ℕ, ◌≡◌, refl, List, [], ◌∷◌, Err}
use Rattle.answers.specs.Answers.{Done}
use Rattle.answers.specs.declared.Refusal.TheVariants.{OverBudget}
use Rattle.costs.specs.declared.networks.Network.{Network}
use Rattle.costs.specs.Cost.{minus}
use Rattle.costs.specs.Net.{costs_of}
use Rattle.costs.specs.Networks.{stands}
use Rattle.costs.specs.PaperNetworks.{network_a, table_a, network_b, table_b, network_c, table_c}
use Rattle.boxes.specs.Places.{in_stretch}
use Rattle.shifts.specs.Nodes.{fixing, least}
use Rattle.shifts.specs.Moves.{shifted}
use Rattle.passes.specs.Passing.{pass}
use Rattle.records.specs.Records.{record_words}
use Rattle.engines.specs.Engines.{State, Gate, never, budget, visit, searched}
use Rattle.visiting.specs.FirstSearch.{first_look, first_engine}

abbrev search_on : Network → List ℕ → Gate → State
search_on net t = searched (first_engine (stands net) (costs_of net.constant t))

-- the cost, the nodes and the plan
abbrev told : State → List ℕ
told s = s.best ∷ s.count ∷ s.plan

-- "for A `cost 1`, `plan 0 1 1`, `nodes 9`"; of B "The program prints `cost 4`, `plan 0`, `nodes 3`"; of C "Printed: `none 5`, `nodes 1`"
answers : told (search_on network_a table_a never) ∷ told (search_on network_b table_b never) ∷ told (search_on network_c table_c never) ∷ []
    ≡ (1 ∷ 9 ∷ 0 ∷ 1 ∷ 1 ∷ []) ∷ (4 ∷ 3 ∷ 0 ∷ []) ∷ (5 ∷ 1 ∷ []) ∷ []
unfolding visit first_look pass shifted in_stretch minus fixing least
answers = refl

abbrev record_words_of : Network → State → List ℕ
record_words_of net s = record_words (stands net) s.best s.plan s.steps

-- "Whole record, 34 words: 1 1 0 4 8 1 9 5; 0; 1 0 0 0 0; 4 0 0 0 4; 5 0 0 0 0; 4 0 0 0 6; 5 0 0 0 0"; of C "Record: 1 1 1 5 8 0 8 2; 4 0 0 0 5; 5 0 0 0 0"
records : record_words_of network_b (search_on network_b table_b never) ∷ record_words_of network_c (search_on network_c table_c never) ∷ []
    ≡ (1 ∷ 1 ∷ 0 ∷ 4 ∷ 8 ∷ 1 ∷ 9 ∷ 5 ∷ 0 ∷ 1 ∷ 0 ∷ 0 ∷ 0 ∷ 0 ∷ 4 ∷ 0 ∷ 0 ∷ 0 ∷ 4 ∷ 5 ∷ 0 ∷ 0 ∷ 0 ∷ 0 ∷ 4 ∷ 0 ∷ 0 ∷ 0 ∷ 6 ∷ 5 ∷ 0 ∷ 0 ∷ 0 ∷ 0 ∷ [])
    ∷ (1 ∷ 1 ∷ 1 ∷ 5 ∷ 8 ∷ 0 ∷ 8 ∷ 2 ∷ 4 ∷ 0 ∷ 0 ∷ 0 ∷ 5 ∷ 5 ∷ 0 ∷ 0 ∷ 0 ∷ 0 ∷ []) ∷ []
unfolding visit first_look pass shifted in_stretch minus fixing least
records = refl

-- of B "Budget 3 finishes, 2 gives 11"
budgets : (search_on network_b table_b (budget 3)).ended ∷ (search_on network_b table_b (budget 2)).ended ∷ [] ≡ Done ∷ (Err OverBudget) ∷ []
unfolding visit first_look pass shifted in_stretch minus fixing least budget
budgets = refl

-- Ties: how the code's progress stands for a search's state.
use Rattle.std.specs.Prelude.{ℕ, ◌-◌, ◌^◌, ◌≡◌, Bool, true, false, cond, Some, None, List, ltb, length, get_or, Err}
use Rattle.answers.specs.Answers.{Done}
use Rattle.answers.specs.declared.Refusal.TheVariants.{OverBudget}
use Rattle.costs.specs.declared.networks.Network.{Network}
use Rattle.costs.specs.Net.{Net, Costs, costs_of, price}
use Rattle.costs.specs.Networks.{stands}
use Rattle.costs.specs.Cheapest.{value_in, RightAnswer}
use Rattle.recorder.specs.Ties.Splicing.{header_bytes, values_of, Written}
use Rattle.engines.specs.declared.progress.Progress.{Progress}
use Rattle.engines.specs.declared.results.Searched.{Searched}
use Rattle.engines.specs.Engines.{State}
use Rattle.engines.specs.Results.{ended_left}

-- a budget, and so a node count, is a 64-bit number
abbrev pub nodes_most : ℕ
nodes_most = 2 ^ 64 - 1

-- the choices that a node's bytes tell
abbrev pub choices : List ℕ → ℕ → ℕ
choices node v = get_or node v 0 - 1

-- the code's progress is the search's state
pub record Meets (asked : Bool) (vars : ℕ) (x : Progress) (values out : List ℕ) (s : State) : Type 0 where
  pub best : x.best ≡ s.best
  pub nodes : x.nodes ≡ s.count
  pub ended : s.ended ≡ cond x.over (Err OverBudget) Done
  pub plan : s.plan ≡ values_of vars x.found values
  pub written : asked ≡ true → Written out x.spot s.steps

-- how the code begins
abbrev pub beginning : ℕ → ℕ → Progress
beginning top room = record { best = top; nodes = 0; found = false; over = false; spot = cond (ltb room header_bytes) None (Some header_bytes) }

abbrev pub ended_progress : Progress → Progress
ended_progress x = record { best = x.best; nodes = x.nodes; found = x.found; over = true; spot = x.spot }

-- the cost that is told: the price of the plan that was found, or k
abbrev pub cost_told : Net → Costs → Bool → List ℕ → ℕ
cost_told n held found plan = cond found (price n held (value_in plan)) n.top

-- what is told of a progress, of every state that it stands for and whose answer, where the search has not been ended, is right
abbrev pub Told : Network → List ℕ → Bool → Progress → List ℕ → List ℕ → Searched → List ℕ → Type 0
Told net held asked x plan out r out' = (s : State) → Meets asked net.vars x plan out s → (s.ended ≡ Done → RightAnswer (stands net) (costs_of net.constant held) s.plan s.best)
    → record { result = r; out = out' } ≡ ended_left (stands net) asked (length out) s

-- Ties: how the code's numbers stand for the search.
use Rattle.std.specs.Prelude.{ℕ, zero, suc, ◌+◌, ◌-◌, ◌≤◌, ◌<◌, ◌≡◌, Bool, true, false, List, [], length, get_or, set}
use Rattle.costs.specs.declared.networks.Network.{Network}
use Rattle.costs.specs.Limits.{vars_most}
use Rattle.costs.specs.Net.{Net, Costs, costs_of}
use Rattle.costs.specs.Networks.{stands}
use Rattle.boxes.specs.Loops.{each_to}
use Rattle.judging.specs.declared.judged.Judged.{Judged}
use Rattle.records.specs.Trees.{TreeNode, root, child}
use Rattle.bounds.specs.Ties.Noting.{notes_most}
use Rattle.engines.specs.declared.progress.Progress.{Progress}
use Rattle.engines.specs.Engines.{Look, State, opens, opened_at, taken, visit, budget, searched}
use Rattle.engines.specs.Ties.Progressing.{choices, Meets}
use Rattle.visiting.specs.declared.Seen.{Seen}
use Rattle.visiting.specs.FirstSearch.{first_look, first_engine}

-- the node that fixes the variables below k to p's values
abbrev pub prefix : Net → (ℕ → ℕ) → ℕ → TreeNode
prefix n p zero = root n
prefix n p (suc k) = child (prefix n p k) k (p k)

-- the node fixes the variables below k, and no other
pub record Fixes (node sizes : List ℕ) (k : ℕ) : Type 0 where
  pub some : (v : ℕ) → v < k → 0 < get_or node v 0
  pub sized : (v : ℕ) → v < k → get_or node v 0 ≤ get_or sizes v 0
  pub free : (v : ℕ) → k ≤ v → get_or node v 0 ≡ 0

-- what the code may count on at a node that fixes the variables below `depth`: room in what is lent
pub record Enters (judged : Judged) (asked : Bool) (node : List ℕ) (depth room notes plan : ℕ) : Type 0 where
  pub roomy : judged.entries ≤ room
  pub noted : asked ≡ true → notes_most ≤ notes
  pub plan_long : plan ≡ vars_most
  pub node_long : length node ≡ vars_most
  pub within : depth ≤ judged.network.now.vars
  pub fixes : Fixes node judged.network.now.sizes depth

-- the look at the node that the bytes tell
abbrev pub look_at : Net → Costs → List ℕ → ℕ → State → Look
look_at n held node depth s = first_look n held (prefix n (choices node) depth) s.best

-- the code has looked at the node as the search does: it has closed it, or it is about to branch its variable `depth`
pub record Looks (net : Network) (held : List ℕ) (asked : Bool) (node : List ℕ) (depth : ℕ) (x : Progress) (plan out : List ℕ) (r : Seen) (plan' out' : List ℕ) : Type 0 where
  pub closed : r.branched ≡ false → (s : State) (below : TreeNode → ℕ → State → State) → Meets asked net.vars x plan out s
      → Meets asked net.vars r.progress plan' out' (taken (look_at (stands net) (costs_of net.constant held) node depth s) s below)
  pub unfinished : r.branched ≡ true → depth < net.vars
  pub opened : r.branched ≡ true → (s : State) → Meets asked net.vars x plan out s
      → (look_at (stands net) (costs_of net.constant held) node depth s ≡ opens [] (prefix (stands net) (choices node) depth) depth) × Meets asked net.vars r.progress plan' out' (opened_at [] depth s)

-- the search of the node that the bytes tell, with a budget
abbrev pub visited : Net → Costs → ℕ → List ℕ → ℕ → State → State
visited n held limit node depth = visit (first_engine n held) (budget limit) (suc (n.vars - depth)) (prefix n (choices node) depth)

-- and the code that goes through it
abbrev pub Visits : Network → List ℕ → Bool → ℕ → List ℕ → ℕ → Progress → List ℕ → List ℕ → Progress → List ℕ → List ℕ → Type 0
Visits net held asked limit node depth x plan out r plan' out' = (s : State) → Meets asked net.vars x plan out s → Meets asked net.vars r plan' out' (visited (stands net) (costs_of net.constant held) limit node depth s)

-- and the part of it that goes through the children of the values below a
abbrev pub Through : Network → List ℕ → Bool → ℕ → List ℕ → ℕ → ℕ → Progress → List ℕ → List ℕ → Progress → List ℕ → List ℕ → Type 0
Through net held asked limit node depth a x plan out r plan' out' = (s : State) → Meets asked net.vars x plan out s
    → Meets asked net.vars r plan' out' (each_to (λ b. visited (stands net) (costs_of net.constant held) limit (set node depth (b + 1)) (depth + 1)) a s)

-- the search of a network
unfoldable pub searched_in : Network → List ℕ → ℕ → State
searched_in net held limit = searched (first_engine (stands net) (costs_of net.constant held)) (budget limit)

-- The rules of a record's steps. What a step asks and what it leaves is said for each kind; that the steps spell the tree is said once for all kinds.
use Rattle.std.specs.Prelude.{ℕ, suc, ◌≤◌, ◌<◌, ◌≡◌, not, List, [], ◌∷◌, T}
use Rattle.std.proofs.Math.Option.{Option, none, some}
use Rattle.costs.specs.Net.{Net, Costs}
use Rattle.shifts.specs.Moves.{shifted, Legal}
use Rattle.records.specs.declared.steps.Step.{Step}
use Rattle.records.specs.declared.steps.Step.TheVariants.{Branch, Shift, Close}
use Rattle.records.specs.Trees.{TreeNode, root, children}

-- what a record claims of a network and its held costs: that no plan is below the cost
pub record Claim : Type 0 where
  pub net : Net
  pub held : Costs
  pub cost : ℕ

abbrev pub claim_of : Net → Costs → ℕ → Claim
claim_of n held cost = record { net = n; held = held; cost = cost }

-- "each closed node starts from the held costs": the costs at a node are none of its own until a shift
abbrev pub current : Costs → Option Costs → Costs
current held none = held
current held (some c) = c

-- what the rules ask of a step at the node d, where the costs are o: "branch (variable, not yet fixed)", of a node that has no shifts; "legal shifts"; "and
-- a close", where the node "ends with its constant at least c"
abbrev pub May : Claim → TreeNode → Option Costs → Step → Type 0
May r d o (Branch i) = (i < r.net.vars) × T (not (d.branched i)) × (o ≡ none)
May r d o (Shift x) = Legal r.net d.live (current r.held o) x
May r d o Close = r.cost ≤ (current r.held o).constant

-- the nodes that are still to be spelt after a step at d, where ds were to come after d
abbrev pub nodes_after : Claim → TreeNode → List TreeNode → Step → List TreeNode
nodes_after r d ds (Branch i) = children d i (r.net.size i) ds
nodes_after r d ds (Shift x) = d ∷ ds
nodes_after r d ds Close = ds

-- the costs at the first of them
abbrev pub costs_after : Claim → TreeNode → Option Costs → Step → Option Costs
costs_after r d o (Branch i) = none
costs_after r d o (Shift x) = some (shifted r.net d.live x (current r.held o))
costs_after r d o Close = none

-- the steps spell these nodes, one after the other, "and nothing more"
abbrev pub Spells : Claim → List TreeNode → Option Costs → List Step → Type 0
Spells r [] o [] = Unit {0}
Spells r [] o (s ∷ ss) = ⊥
Spells r (d ∷ ds) o [] = ⊥
Spells r (d ∷ ds) o (s ∷ ss) = May r d o s × Spells r (nodes_after r d ds s) (costs_after r d o s) ss

-- "the steps spell one node and nothing more"
abbrev pub Keeps : Claim → List Step → Type 0
Keeps r ss = Spells r (root r.net ∷ []) none ss

-- "The node count equals the branch and close steps of the record"
abbrev pub nodes_in : List Step → ℕ
nodes_in [] = 0
nodes_in (Branch i ∷ ss) = suc (nodes_in ss)
nodes_in (Shift x ∷ ss) = nodes_in ss
nodes_in (Close ∷ ss) = suc (nodes_in ss)

-- What is asked of an engine at each node, so that its search is right, keeps the rules of a record and stays small.
use Rattle.std.specs.Prelude.{ℕ, ◌+◌, ◌≤◌, ◌<◌, ◌≡◌, false, ◌⊎◌, List, ◌∷◌, ◌++◌, T, length}
use Rattle.std.proofs.Math.Option.{none}
use Rattle.costs.specs.Net.{Net, Costs, price}
use Rattle.costs.specs.Cheapest.{value_in}
use Rattle.shifts.specs.Nodes.{Fits}
use Rattle.records.specs.declared.steps.Step.{Step}
use Rattle.records.specs.declared.steps.Step.TheVariants.{Branch}
use Rattle.records.specs.Trees.{TreeNode, root, child, children}
use Rattle.records.specs.Rules.{Claim, claim_of, Spells, nodes_in}
use Rattle.engines.specs.Engines.{Look, closes, finds, opens, Engine}

-- every plan that fits d costs b at least
abbrev pub Shut : Net → Costs → TreeNode → ℕ → Type 0
Shut n held d b = (p : ℕ → ℕ) → Fits n d.live p → b ≤ price n held p

-- q fits d and costs c, below b; no plan that fits d costs less, and any other costs b at least
pub record Found (n : Net) (held : Costs) (d : TreeNode) (b : ℕ) (q : List ℕ) (c : ℕ) : Type 0 where
  pub cheaper : c < b
  pub whole : length q ≡ n.vars
  pub fits : Fits n d.live (value_in q)
  pub priced : price n held (value_in q) ≡ c
  pub least : (p : ℕ → ℕ) → Fits n d.live p → c ≤ price n held p
  pub only : (p : ℕ → ℕ) → Fits n d.live p → ((v : ℕ) → v < n.vars → p v ≡ value_in q v) ⊎ (b ≤ price n held p)

-- d' leaves out of d only plans of b at least; i is free there, every variable below it is settled, and the children are as the engine wants them
pub record Cut (n : Net) (held : Costs) (I : TreeNode → Type 0) (d : TreeNode) (b : ℕ) (d' : TreeNode) (i : ℕ) : Type 0 where
  pub variable : i < n.vars
  pub free : d'.branched i ≡ false
  pub above : d'.branched ≡ d.branched
  pub keeps : (p : ℕ → ℕ) → Fits n d.live p → Fits n d'.live p ⊎ (b ≤ price n held p)
  pub narrows : (p : ℕ → ℕ) → Fits n d'.live p → Fits n d.live p
  pub lower : (p q : ℕ → ℕ) → Fits n d'.live p → Fits n d'.live q → (v : ℕ) → v < i → p v ≡ q v
  pub next : (a : ℕ) → a < n.size i → T (d'.live i a) → I (child d' i a)

abbrev pub LookRight : Net → Costs → (TreeNode → Type 0) → TreeNode → ℕ → Look → Type 0
LookRight n held I d b (closes w) = Shut n held d b
LookRight n held I d b (finds q c w) = Found n held d b q c
LookRight n held I d b (opens w d' i) = Cut n held I d b d' i

-- an engine is right at every node of I, and I holds of the root
pub record Right (e : Engine) (held : Costs) (I : TreeNode → Type 0) : Type 0 where
  pub root : I (root e.net)
  pub look : (d : TreeNode) (b : ℕ) → I d → LookRight e.net held I d b (e.look d b)

-- the steps close the node d, under a claim of at most b
pub record Closing (r : Claim) (d : TreeNode) (b : ℕ) (w : List Step) : Type 0 where
  pub one : nodes_in w ≡ 1
  pub spells : r.cost ≤ b → (ds : List TreeNode) (ss : List Step) → Spells r ds none ss → Spells r (d ∷ ds) none (w ++ ss)

-- the steps lead from d to a branch of i at d', under a claim of at most b
pub record Leading (r : Claim) (d : TreeNode) (b : ℕ) (w : List Step) (d' : TreeNode) (i : ℕ) : Type 0 where
  pub zero : nodes_in w ≡ 0
  pub spells : r.cost ≤ b → (ds : List TreeNode) (ss : List Step) → Spells r (children d' i (r.net.size i) ds) none ss → Spells r (d ∷ ds) none (w ++ (Branch i ∷ ss))

abbrev pub LookWrites : Claim → TreeNode → ℕ → Look → Type 0
LookWrites r d b (closes w) = Closing r d b w
LookWrites r d b (finds q c w) = Closing r d c w
LookWrites r d b (opens w d' i) = Leading r d b w d' i

-- the engine's steps keep the rules of the edition at every node of I
pub record Writes (e : Engine) (held : Costs) (I : TreeNode → Type 0) : Type 0 where
  pub look : (c : ℕ) (d : TreeNode) (b : ℕ) → I d → LookWrites (claim_of e.net held c) d b (e.look d b)

-- each look writes at most k steps
abbrev pub LookShort : ℕ → Look → Type 0
LookShort k (closes w) = length w ≤ k
LookShort k (finds q c w) = length w ≤ k
LookShort k (opens w d i) = length w + 1 ≤ k

-- The nodes that a search enters, and the plan of one where every variable is settled.
use Rattle.std.specs.Prelude.{ℕ, ◌<◌, ◌≡◌, true, List, T}
use Rattle.costs.specs.Range.{first_to, list_to}
use Rattle.costs.specs.Net.{Net}
use Rattle.records.specs.Trees.{TreeNode}

-- the plan of a node where every variable is fixed: each variable's first live value
abbrev pub plan_of : Net → TreeNode → List ℕ
plan_of n d = list_to n.vars (λ v. first_to (n.size v) (d.live v))

-- some value of variable i is live
pub record HasLive (n : Net) (d : TreeNode) (i : ℕ) : Type 0 where
  pub value : ℕ
  pub below : value < n.size i
  pub lives : T (d.live i value)

-- each variable has a live value, and a branched one has no other
pub record Tidy (n : Net) (d : TreeNode) : Type 0 where
  pub some : (v : ℕ) → v < n.vars → HasLive n d v
  pub below : (v b : ℕ) → v < n.vars → T (d.live v b) → b < n.size v
  pub one : (v : ℕ) → v < n.vars → d.branched v ≡ true → (a b : ℕ) → T (d.live v a) → T (d.live v b) → a ≡ b

-- no variable has two live values
abbrev pub OneLive : Net → TreeNode → Type 0
OneLive n d = (v : ℕ) → v < n.vars → (a b : ℕ) → T (d.live v a) → T (d.live v b) → a ≡ b

-- The tree of nodes that a record's steps spell. A node of it knows what was branched above and what is live.
use Rattle.std.specs.Prelude.{ℕ, zero, suc, Bool, true, false, cond, List, ◌∷◌, eqb, ltb}
use Rattle.costs.specs.Net.{Net}
use Rattle.shifts.specs.Nodes.{fixing}

-- "A node fixes some variables; a fixed variable has one live value, any other has all."
pub record TreeNode : Type 0 where
  pub branched : ℕ → Bool
  pub live : ℕ → ℕ → Bool

-- nothing is fixed
abbrev pub root : Net → TreeNode
root n = record { branched = λ v. false; live = λ v b. ltb b (n.size v) }

-- the node below d that fixes variable i to a
abbrev pub child : TreeNode → ℕ → ℕ → TreeNode
child d i a = record { branched = λ v. cond (eqb v i) true (d.branched v); live = fixing d.live i a }

-- "one node per value ascending": the children of d for the live values of i below c, and then ds
abbrev pub children : TreeNode → ℕ → ℕ → List TreeNode → List TreeNode
children d i zero ds = ds
children d i (suc c) ds = children d i c (cond (d.live i c) (child d i c ∷ ds) ds)

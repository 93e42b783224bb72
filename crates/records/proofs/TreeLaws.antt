-- Laws of a record's tree: which plans fit its nodes, and what holds of each child. Assumes nothing.
use Rattle.std.proofs.Common.{ℕ, zero, suc, ◌<◌, ◌≡◌, Bool, true, false, cond, List, [], ◌∷◌, arith, T, lt→ltb}
use Rattle.std.proofs.Math.Decide.{ℕ_discrete}
use Rattle.costs.specs.Net.{Net, IsPlan}
use Rattle.shifts.specs.Nodes.{Fits}
use Rattle.shifts.proofs.NodeLaws.{fits_below}
use Rattle.records.specs.Trees.{TreeNode, root, child, children}

-- P holds of each of a list of nodes
abbrev pub Each : (TreeNode → Type 0) → List TreeNode → Type 0
Each P [] = Unit {0}
Each P (d ∷ ds) = P d × Each P ds

-- every plan fits the root
pub root_fits : (n : Net) (p : ℕ → ℕ) → IsPlan n p → Fits n (root n).live p
root_fits n p h = record { plan = h; lives = λ v l. lt→ltb (p v) (n.size v) (h.range v l) }

-- a plan that fits a node fits the child of its own value
pub child_fits : (n : Net) (d : TreeNode) (i a : ℕ) (p : ℕ → ℕ) → p i ≡ a → Fits n d.live p → Fits n (child d i a).live p
child_fits n d i a p e f = fits_below n d.live i a p e f

-- what holds of each child of a list of children holds of the child of each live value, and of each of the rest
pub each_child : (P : TreeNode → Type 0) (d : TreeNode) (i c : ℕ) (ds : List TreeNode) → Each P (children d i c ds)
    → ((b : ℕ) → b < c → T (d.live i b) → P (child d i b)) × Each P ds
each_child P d i zero ds h = ((λ b l. absurd (omega arith)), h)
each_child P d i (suc c) ds h =
    let r = each_child P d i c (cond (d.live i c) (child d i c ∷ ds) ds) h in
    ((λ b l t. elim (ℕ_discrete b c) [ yes q ↦ rw q (last (d.live i c) (rw q at t) r.1) | no q ↦ r.0 b (omega arith) t ]), rest (d.live i c) r.1)
  where
    last : (x : Bool) → T x → Each P (cond x (child d i c ∷ ds) ds) → P (child d i c)
    last true t e = e.0
    last false t e = absurd t

    rest : (x : Bool) → Each P (cond x (child d i c ∷ ds) ds) → Each P ds
    rest true e = e.1
    rest false e = e

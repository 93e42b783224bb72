-- Ties: where the code stands in a record's tree: how its place stands for the nodes that are still to be spelt.
use Rattle.std.specs.Prelude.{ℕ, zero, suc, ◌-◌, ◌≤◌, ◌<◌, ◌≡◌, Bool, true, false, cond, List, [], ◌∷◌, eqb, get_or, replicate}
use Rattle.costs.specs.Limits.{vars_most}
use Rattle.shifts.specs.Nodes.{live_by}
use Rattle.records.specs.Trees.{TreeNode, child}
use Rattle.spelling.specs.declared.trees.Place.{Place}

abbrev pub is_set : ℕ → Bool
is_set zero = false
is_set (suc a) = true

-- the node that a number for each variable tells: 0 free, v + 1 fixed to v
abbrev pub node_of : (ℕ → ℕ) → (ℕ → ℕ) → TreeNode
node_of size f = record { branched = λ v. is_set (f v); live = λ v b. live_by (f v) (size v) b }

-- f with x at i
unfoldable pub chosen : (ℕ → ℕ) → ℕ → ℕ → ℕ → ℕ
chosen f i x v = cond (eqb v i) x (f v)

-- the children of d for `left` values of i from a on, and then ds
abbrev pub children_from : TreeNode → ℕ → ℕ → ℕ → List TreeNode → List TreeNode
children_from d i a zero ds = ds
children_from d i a (suc left) ds = cond (d.live i a) (child d i a ∷ children_from d i (suc a) left ds) (children_from d i (suc a) left ds)

-- the variables branched above, the last branched first
abbrev pub levels : List ℕ → ℕ → List ℕ
levels order zero = []
levels order (suc depth) = get_or order depth 0 ∷ levels order depth

-- the nodes that come after the node: at each branch above it those of the values after its own, which its number names
abbrev pub pending : (ℕ → ℕ) → List ℕ → (ℕ → ℕ) → List TreeNode
pending size [] f = []
pending size (i ∷ is) f = children_from (node_of size (chosen f i 0)) i (f i) (size i - f i) (pending size is (chosen f i 0))

-- each variable branched above is fixed to a value of it, and no other is fixed
abbrev pub Stacked : ℕ → (ℕ → ℕ) → List ℕ → (ℕ → ℕ) → Type 0
Stacked vars size [] f = (v : ℕ) → f v ≡ 0
Stacked vars size (i ∷ is) f = (i < vars) × (0 < f i) × (f i ≤ size i) × Stacked vars size is (chosen f i 0)

abbrev pub said : Place → ℕ → ℕ
said p v = get_or p.fixed v 0

pub record Upright (vars : ℕ) (size : ℕ → ℕ) (p : Place) : Type 0 where
  pub stacked : Stacked vars size (levels p.order p.depth) (said p)

abbrev pub node_at : (ℕ → ℕ) → Place → TreeNode
node_at size p = node_of size (said p)

unfoldable pub pending_at : (ℕ → ℕ) → Place → List TreeNode
pending_at size p = pending size (levels p.order p.depth) (said p)

-- the nodes still to be spelt
unfoldable pub nodes_at : (ℕ → ℕ) → Place → List TreeNode
nodes_at size p = cond p.over [] (node_at size p ∷ pending_at size p)

-- a step led to a place: the nodes that are left to spell there, whether the first of them has had a shift, and its constant
pub record LeadsTo (vars : ℕ) (size : ℕ → ℕ) (ds : List TreeNode) (begun : Bool) (constant : ℕ) (p : Place) : Type 0 where
  pub upright : Upright vars size p
  pub nodes : nodes_at size p ≡ ds
  pub begun_is : p.begun ≡ begun
  pub constant_is : p.constant ≡ constant

abbrev pub root_place : ℕ → Place
root_place constant = record { fixed = replicate vars_most 0; order = replicate vars_most 0; depth = 0; over = false; begun = false; constant = constant }

-- Laws of the place in a record's tree: what a branch leaves, and what turning back leaves. Assumes nothing.
use Rattle.std.proofs.Common.{ℕ, zero, suc, ◌+◌, ◌-◌, ◌≤◌, ◌<◌, ◌≡◌, refl, sym, ap, ◌∙◌, Bool, true, false, cond, ◌≢◌, List, [], ◌∷◌, arith, add-zero, add-suc, suc-add, zero-add, add-one, T, eqb, ltb, eqb→eq, lt→ltb, length, get_or, set, get_or-set_same, get_or-set_other}
use Rattle.std.proofs.Math.Path.{subst⁻¹, fun_ext}
use Rattle.std.proofs.Math.Decide.{ℕ_discrete}
use Rattle.std.proofs.Math.Dec.{eqb_refl}
use Rattle.costs.specs.Limits.{vars_most}
use Rattle.costs.specs.Range.{sum_to}
use Rattle.costs.specs.Net.{Net}
use Rattle.costs.proofs.TestLaws.{is_true, is_false}
use Rattle.costs.proofs.RangeLaws.{sum_to_point}
use Rattle.shifts.specs.Nodes.{live_by, fixing}
use Rattle.tables.proofs.TableLaws.{zero_at}
use Rattle.records.specs.Trees.{TreeNode, root, child, children}
use Rattle.spelling.specs.declared.trees.Place.{Place}
use Rattle.spelling.specs.Ties.Standing.{is_set, node_of, chosen, children_from, levels, pending, Stacked, said, Upright, node_at, pending_at, nodes_at, root_place}

pub chosen-same : (f : ℕ → ℕ) (i x : ℕ) → chosen f i x i ≡ x
unfolding chosen
chosen-same f i x = rw (is_true (eqb i i) (eqb_refl i))

pub chosen_other : (f : ℕ → ℕ) (i x v : ℕ) → v ≢ i → chosen f i x v ≡ f v
unfolding chosen
chosen_other f i x v d = rw (is_false (eqb v i) (λ t. d (eqb→eq v i t)))

pub chosen_twice : (f : ℕ → ℕ) (i x y : ℕ) → chosen (chosen f i x) i y ≡ chosen f i y
unfolding chosen
chosen_twice f i x y = fun_ext (λ v. go (eqb v i) v)
  where
    go : (t : Bool) (v : ℕ) → cond t y (cond t x (f v)) ≡ cond t y (f v)
    go true v = refl
    go false v = refl

pub chosen_own : (f : ℕ → ℕ) (i x : ℕ) → f i ≡ x → chosen f i x ≡ f
unfolding chosen
chosen_own f i x e = fun_ext (λ v. go v (eqb v i) (eqb→eq v i))
  where
    go : (v : ℕ) (t : Bool) → (T t → v ≡ i) → cond t x (f v) ≡ f v
    go v true q = rw (q tt) (sym e)
    go v false q = refl

-- one byte stored
pub set-chosen : (l : List ℕ) (i x : ℕ) → i < length l → (λ v. get_or (set l i x) v 0) ≡ chosen (λ v. get_or l v 0) i x
set-chosen l i x h = fun_ext (λ v. elim (ℕ_discrete v i) [
  | yes q ↦ rw (q, get_or-set_same l i x 0 h, chosen-same (λ v. get_or l v 0) i x)
  | no q ↦ get_or-set_other l i v x 0 q ∙ sym (chosen_other (λ v. get_or l v 0) i x v q)
])

pub is_set_lem : (x : ℕ) → (x ≡ 0 → ⊥) → is_set x ≡ true
is_set_lem zero h = absurd (h refl)
is_set_lem (suc x) h = refl

-- a variable fixed: the node's child
pub node_child : (size f : ℕ → ℕ) (i a : ℕ) → node_of size (chosen f i (suc a)) ≡ child (node_of size f) i a
node_child size f i a = λ j. record { branched = fun_ext above j; live = fun_ext (λ v. fun_ext (below v)) j }
  where
    above : (v : ℕ) → is_set (chosen f i (suc a) v) ≡ cond (eqb v i) true (is_set (f v))
    above v = unfold chosen in go (eqb v i)
      where
        go : (t : Bool) → is_set (cond t (suc a) (f v)) ≡ cond t true (is_set (f v))
        go true = refl
        go false = refl

    below : (v b : ℕ) → live_by (chosen f i (suc a) v) (size v) b ≡ fixing (λ v b. live_by (f v) (size v) b) i a v b
    below v b = unfold chosen fixing in go (eqb v i)
      where
        go : (t : Bool) → live_by (cond t (suc a) (f v)) (size v) b ≡ cond t (eqb b a) (live_by (f v) (size v) b)
        go true = refl
        go false = refl

-- the children from a value on: the next, and none
pub from_next : (size f : ℕ → ℕ) (i a : ℕ) (ds : List TreeNode) → f i ≡ 0 → a < size i
    → children_from (node_of size f) i a (size i - a) ds ≡ node_of size (chosen f i (suc a)) ∷ children_from (node_of size f) i (suc a) (size i - suc a) ds
from_next size f i a ds e l =
    let q : size i - a ≡ suc (size i - suc a) = omega arith in
    rw (q, e, is_true (ltb a (size i)) (lt→ltb a (size i) l), node_child size f i a)

pub from_end : (size : ℕ → ℕ) (d : TreeNode) (i a : ℕ) (ds : List TreeNode) → size i ≤ a → children_from d i a (size i - a) ds ≡ ds
from_end size d i a ds l = let q : size i - a ≡ 0 = omega arith in rw q

children_from_lem : (d : TreeNode) (i a left : ℕ) (ds : List TreeNode) → children d i a (children_from d i a left ds) ≡ children d i (a + left) ds
children_from_lem d i a zero ds = rw add-zero
children_from_lem d i a (suc left) ds = children_from_lem d i (suc a) left ds ∙ rw (suc-add, add-suc)

-- all of them
pub from_all : (size : ℕ → ℕ) (d : TreeNode) (i : ℕ) (ds : List TreeNode) → children_from d i 0 (size i - 0) ds ≡ children d i (size i) ds
from_all size d i ds = let q : size i - 0 ≡ size i = omega arith in rw q (children_from_lem d i 0 (size i) ds ∙ ap (λ (c : ℕ). children d i c ds) (zero-add (size i)))

-- at the root nothing is fixed
pub root_nodes : (n : Net) (constant : ℕ) → nodes_at n.size (root_place constant) ≡ root n ∷ []
unfolding nodes_at pending_at
root_nodes n constant = ap (λ (f : ℕ → ℕ). node_of n.size f ∷ []) (fun_ext (zero_at vars_most))

-- a branch of a free variable puts it on the stack
pub pending_branch : (size f : ℕ → ℕ) (i : ℕ) (is : List ℕ) → f i ≡ 0 → 0 < size i
    → node_of size (chosen f i 1) ∷ pending size (i ∷ is) (chosen f i 1) ≡ children (node_of size f) i (size i) (pending size is f)
pending_branch size f i is e l =
    rw (chosen_twice f i 1 0, chosen_own f i 0 e, chosen-same f i 1)
    (sym (from_next size f i 0 (pending size is f) e l) ∙ from_all size (node_of size f) i (pending size is f))

pub stacked_branch : (vars : ℕ) (size f : ℕ → ℕ) (i : ℕ) (is : List ℕ) → Stacked vars size is f → i < vars → f i ≡ 0 → 0 < size i → Stacked vars size (i ∷ is) (chosen f i 1)
stacked_branch vars size f i is s l e h =
    rw (chosen-same f i 1, chosen_twice f i 1 0, chosen_own f i 0 e) (l, omega arith, h, s)

-- turning back at the last branch: its next value, or the branch above it
pub pending_next : (size f : ℕ → ℕ) (i : ℕ) (is : List ℕ) → f i < size i → node_of size (chosen f i (suc (f i))) ∷ pending size (i ∷ is) (chosen f i (suc (f i))) ≡ pending size (i ∷ is) f
pending_next size f i is l =
    rw (chosen_twice f i (suc (f i)) 0, chosen-same f i (suc (f i)))
    (sym (from_next size (chosen f i 0) i (f i) (pending size is (chosen f i 0)) (chosen-same f i 0) l ∙ rw (chosen_twice f i 0 (suc (f i)))))

pub stacked_next : (vars : ℕ) (size f : ℕ → ℕ) (i : ℕ) (is : List ℕ) → Stacked vars size (i ∷ is) f → f i < size i → Stacked vars size (i ∷ is) (chosen f i (suc (f i)))
stacked_next vars size f i is s l = rw (chosen-same f i (suc (f i)), chosen_twice f i (suc (f i)) 0) (s.0, omega arith, l, s.3)

pub pending_none : (size f : ℕ → ℕ) (i : ℕ) (is : List ℕ) → size i ≤ f i → pending size is (chosen f i 0) ≡ pending size (i ∷ is) f
pending_none size f i is l = sym (from_end size (node_of size (chosen f i 0)) i (f i) (pending size is (chosen f i 0)) l)

-- each fixed value is below its size: a legal node
pub stacked_node : (vars : ℕ) (size f : ℕ → ℕ) (is : List ℕ) → Stacked vars size is f → (v : ℕ) → f v ≤ size v
stacked_node vars size f [] s v = omega (arith, s v)
stacked_node vars size f (i ∷ is) s v = elim (ℕ_discrete v i) [
  | yes q ↦ rw q s.2
  | no q ↦ rw (chosen_other f i 0 v q) at (stacked_node vars size (chosen f i 0) is s.3 v)
]

-- as many levels as variables are fixed: so a free variable leaves room for one more
ones : ℕ → ℕ
ones x = cond (is_set x) 1 0

ones_set : (x : ℕ) → 0 < x → ones x ≡ 1
unfolding ones
ones_set zero h = absurd (omega arith)
ones_set (suc x) h = refl

ones_most : (n : ℕ) (f : ℕ → ℕ) → sum_to n (λ v. ones (f v)) ≤ n
unfolding ones
ones_most zero f = omega arith
ones_most (suc n) f = go (is_set (f n)) (ones_most n f)
  where
    go : (t : Bool) → sum_to n (λ v. ones (f v)) ≤ n → sum_to n (λ v. ones (f v)) + cond t 1 0 ≤ suc n
    go true h = omega arith
    go false h = omega arith

stacked_many : (vars : ℕ) (size f : ℕ → ℕ) (is : List ℕ) → Stacked vars size is f → length is ≤ sum_to vars (λ v. ones (f v))
unfolding ones
stacked_many vars size f [] s = omega arith
stacked_many vars size f (i ∷ is) s =
    let r = sum_to_point vars i (λ v. ones (chosen f i 0 v)) (λ v. ones (f v)) s.0 (λ j l d. rw (chosen_other f i 0 j d)) in
    let z : ones (chosen f i 0 i) ≡ 0 = rw (chosen-same f i 0) in
    omega (arith, r, z, ones_set (f i) s.1, stacked_many vars size (chosen f i 0) is s.3)

pub stacked_room : (vars : ℕ) (size f : ℕ → ℕ) (is : List ℕ) (i : ℕ) → Stacked vars size is f → i < vars → f i ≡ 0 → length is < vars
unfolding ones
stacked_room vars size f is i s l e =
    let r = sum_to_point vars i (λ v. ones (f v)) (λ v. ones (chosen f i 1 v)) l (λ j m d. rw (chosen_other f i 1 j d)) in
    let z : ones (f i) ≡ 0 = rw e in
    let y : ones (chosen f i 1 i) ≡ 1 = rw (chosen-same f i 1) in
    omega (arith, r, z, y, ones_most vars (chosen f i 1), stacked_many vars size f is s)

-- the stack in the array
pub levels_many : (order : List ℕ) (depth : ℕ) → length (levels order depth) ≡ depth
levels_many order zero = refl
levels_many order (suc depth) = ap suc (levels_many order depth)

pub levels_below : (order : List ℕ) (at x depth : ℕ) → depth ≤ at → levels (set order at x) depth ≡ levels order depth
levels_below order at x zero h = refl
levels_below order at x (suc depth) h = rw (get_or-set_other order at depth x 0 (omega arith), levels_below order at x depth (omega arith))

levels_top : (order : List ℕ) (depth : ℕ) → 0 < depth → levels order depth ≡ get_or order (depth - 1) 0 ∷ levels order (depth - 1)
levels_top order zero h = absurd (omega arith)
levels_top order (suc depth) h = let e : suc depth - 1 ≡ depth = omega arith in rw e

module _ (vars : ℕ) (size : ℕ → ℕ) where
  pub upright_depth : (p : Place) → Upright vars size p → p.depth ≤ vars
  upright_depth p u = omega (arith, stacked_many vars size (said p) (levels p.order p.depth) u.stacked, ones_most vars (said p), levels_many p.order p.depth)

  pub upright_room : (p : Place) (i : ℕ) → Upright vars size p → i < vars → said p i ≡ 0 → p.depth < vars
  upright_room p i u l e = omega (arith, stacked_room vars size (said p) (levels p.order p.depth) i u.stacked l e, levels_many p.order p.depth)

  pub upright_node : (p : Place) → Upright vars size p → (v : ℕ) → said p v ≤ size v
  upright_node p u v = stacked_node vars size (said p) (levels p.order p.depth) u.stacked v

-- the place that a branch of variable i leads to
abbrev pub branched_place : Place → ℕ → Place
branched_place p i = record { fixed = set p.fixed i 1; order = set p.order p.depth i; depth = p.depth + 1; over = false; begun = false; constant = p.constant }

module _ (vars : ℕ) (size : ℕ → ℕ) (p : Place) (i : ℕ) (u : Upright vars size p) (l : i < vars) (free : said p i ≡ 0) (some : 0 < size i) (in-fixed : i < length p.fixed) (in_order : p.depth < length p.order) where
  order_is : levels (set p.order p.depth i) (p.depth + 1) ≡ i ∷ levels p.order p.depth
  order_is = rw (add-one p.depth, get_or-set_same p.order p.depth i 0 in_order, levels_below p.order p.depth i p.depth (omega arith))

  pub branched_upright : Upright vars size (branched_place p i)
  branched_upright = record { stacked = rw order_is (subst⁻¹ (λ (f : ℕ → ℕ). Stacked vars size (i ∷ levels p.order p.depth) f) (set-chosen p.fixed i 1 in-fixed) (stacked_branch vars size (said p) i (levels p.order p.depth) u.stacked l free some)) }

  pub branched_nodes : nodes_at size (branched_place p i) ≡ children (node_at size p) i (size i) (pending_at size p)
  unfolding nodes_at pending_at
  branched_nodes =
      rw order_is
      (subst⁻¹ (λ (f : ℕ → ℕ). node_of size f ∷ pending size (i ∷ levels p.order p.depth) f ≡ children (node_at size p) i (size i) (pending_at size p)) (set-chosen p.fixed i 1 in-fixed)
      (pending_branch size (said p) i (levels p.order p.depth) free some))

pub top_known : (vars : ℕ) (size : ℕ → ℕ) (fixed order : List ℕ) (depth i : ℕ) → 0 < depth → i ≡ get_or order (depth - 1) 0 → Stacked vars size (levels order depth) (λ v. get_or fixed v 0) → i < vars
top_known vars size fixed order depth i deep top s = rw top (rw (levels_top order depth deep) at s).0

-- one turn back at the last branch, of variable i with the number `next`
module _ (vars : ℕ) (size : ℕ → ℕ) (fixed order : List ℕ) (depth i next : ℕ) (deep : 0 < depth) (top : i ≡ get_or order (depth - 1) 0) (at : next ≡ get_or fixed i 0) (inside : i < length fixed)
    (stacked : Stacked vars size (levels order depth) (λ v. get_or fixed v 0)) where
  levels_is : levels order depth ≡ i ∷ levels order (depth - 1)
  levels_is = levels_top order depth deep ∙ rw top

  pub top_stacked : Stacked vars size (i ∷ levels order (depth - 1)) (λ v. get_or fixed v 0)
  top_stacked = rw levels_is at stacked

  module _ (left : next < size i) (constant : ℕ) where
    abbrev pub next_place : Place
    next_place = record { fixed = set fixed i (next + 1); order = order; depth = depth; over = false; begun = false; constant = constant }

    fixed_is : (λ v. get_or (set fixed i (next + 1)) v 0) ≡ chosen (λ v. get_or fixed v 0) i (suc (get_or fixed i 0))
    fixed_is = rw (add-one next, at) (set-chosen fixed i (suc (get_or fixed i 0)) inside)

    pub next_upright : Upright vars size next_place
    next_upright = record { stacked = rw levels_is (subst⁻¹ (λ (f : ℕ → ℕ). Stacked vars size (i ∷ levels order (depth - 1)) f) fixed_is (stacked_next vars size (λ v. get_or fixed v 0) i (levels order (depth - 1)) top_stacked (rw (← at) left))) }

    pub next_nodes : nodes_at size next_place ≡ pending size (levels order depth) (λ v. get_or fixed v 0)
    unfolding nodes_at pending_at
    next_nodes =
        rw levels_is
        (subst⁻¹ (λ (f : ℕ → ℕ). node_of size f ∷ pending size (i ∷ levels order (depth - 1)) f ≡ pending size (i ∷ levels order (depth - 1)) (λ v. get_or fixed v 0)) fixed_is
        (pending_next size (λ v. get_or fixed v 0) i (levels order (depth - 1)) (rw (← at) left)))

  module _ (over : size i ≤ next) where
    pub none_stacked : Stacked vars size (levels order (depth - 1)) (λ v. get_or (set fixed i 0) v 0)
    none_stacked = rw (set-chosen fixed i 0 inside) top_stacked.3

    pub none_pending : pending size (levels order (depth - 1)) (λ v. get_or (set fixed i 0) v 0) ≡ pending size (levels order depth) (λ v. get_or fixed v 0)
    none_pending = rw (levels_is, set-chosen fixed i 0 inside) (pending_none size (λ v. get_or fixed v 0) i (levels order (depth - 1)) (rw (← at) over))

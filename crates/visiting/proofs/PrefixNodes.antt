-- The search as a recursive function meets it: the node that fixes the first variables to some choices. Assumes nothing.
use Rattle.std.proofs.Common.{ℕ, zero, suc, ◌≤◌, ◌<◌, ◌≡◌, refl, sym, ap, ◌∙◌, true, false, cond, List, [], ◌∷◌, ◌++◌, map, arith, eqb, leb, ltb, ltb→lt, lt→ltb, lt-ltb, le-ltb, le-leb, eq-eqb, ne_eqb}
use Rattle.std.proofs.Math.Decide.{ℕ_discrete, dec_lt}
use Rattle.std.proofs.Math.Dec.{eqb_refl}
use Rattle.std.proofs.lemmas.Bool.{lt-leb}
use Rattle.costs.specs.Range.{first_to, list_to}
use Rattle.costs.specs.Net.{Net, Costs}
use Rattle.costs.proofs.TestLaws.{is_true, is_false, same_test}
use Rattle.costs.proofs.RangeLaws.{first_to_is, first_to_none}
use Rattle.boxes.specs.Loops.{each_to}
use Rattle.shifts.specs.Nodes.{fixing}
use Rattle.passes.specs.Passing.{pass}
use Rattle.records.specs.declared.steps.Step.{Step}
use Rattle.records.specs.declared.steps.Step.TheVariants.{Shift, Close}
use Rattle.records.specs.Trees.{TreeNode, child}
use Rattle.engines.specs.Engines.{closes, finds, opens, State, Engine, Gate, each_live, visit}
use Rattle.engines.specs.Nodes.{plan_of}
use Rattle.visiting.specs.FirstSearch.{free, first_look}
use Rattle.visiting.specs.Ties.Visiting.{prefix}
use Rattle.costs.proofs.ListLaws.{list_to-same}

-- choices past k do not matter
pub prefix_same : (n : Net) (p q : ℕ → ℕ) (k : ℕ) → ((v : ℕ) → v < k → p v ≡ q v) → prefix n p k ≡ prefix n q k
prefix_same n p q zero h = refl
prefix_same n p q (suc k) h = rw (prefix_same n p q k (λ v l. h v (omega arith)), h k (omega arith))

module _ (n : Net) (p : ℕ → ℕ) where
  prefix_branched : (k v : ℕ) → (prefix n p k).branched v ≡ ltb v k
  prefix_branched zero v = sym (is_false (ltb v 0) (λ t. omega (arith, ltb→lt v 0 t)))
  prefix_branched (suc k) v = elim (ℕ_discrete v k) [
    | yes q ↦ rw (q, is_true (eqb k k) (eqb_refl k)) (sym (lt-ltb k (suc k) (omega arith)))
    | no q ↦ rw (ne_eqb v k q, prefix_branched k v) (same_test (ltb v k) (ltb v (suc k)) (λ t. lt→ltb v (suc k) (omega (arith, ltb→lt v k t))) (λ t. lt→ltb v k (omega (arith, ltb→lt v (suc k) t))))
  ]

  -- a variable not yet fixed has all values, a fixed one its choice
  pub prefix_all : (k v b : ℕ) → k ≤ v → (prefix n p k).live v b ≡ ltb b (n.size v)
  unfolding fixing
  prefix_all zero v b l = refl
  prefix_all (suc k) v b l = rw (ne_eqb v k (λ e. omega arith)) (prefix_all k v b (omega arith))

  pub prefix_one : (k v b : ℕ) → v < k → (prefix n p k).live v b ≡ eqb b (p v)
  unfolding fixing
  prefix_one zero v b l = absurd (omega arith)
  prefix_one (suc k) v b l = elim (ℕ_discrete v k) [
    | yes q ↦ rw (q, is_true (eqb k k) (eqb_refl k))
    | no q ↦ rw (ne_eqb v k q) (prefix_one k v b (omega arith))
  ]

module _ (n : Net) (p : ℕ → ℕ) (k : ℕ) where
  free_yes : (v : ℕ) → k ≤ v → free (prefix n p k) v ≡ true
  free_yes v l = rw (prefix_branched n p k v, le-ltb v k l)

  free_no : (v : ℕ) → v < k → free (prefix n p k) v ≡ false
  free_no v l = rw (prefix_branched n p k v, lt-ltb v k l)

  -- "the lowest unfixed variable" is k, and their number where every variable is fixed
  pub lowest_free : k ≤ n.vars → first_to n.vars (free (prefix n p k)) ≡ k
  lowest_free l = elim (dec_lt k n.vars) [
    | yes q ↦ first_to_is n.vars k (free (prefix n p k)) q free_no (free_yes k (omega arith))
    | no q ↦ let e : n.vars ≡ k = omega arith in first_to_none n.vars (free (prefix n p k)) (λ v m. free_no v (omega arith)) ∙ e
  ]

  -- the plan of a full node is its choices
  full_plan : n.vars ≤ k → ((v : ℕ) → v < n.vars → p v < n.size v) → plan_of n (prefix n p k) ≡ list_to n.vars p
  full_plan l ok = list_to-same n.vars (λ v. first_to (n.size v) ((prefix n p k).live v)) p
      (λ v m. first_to_is (n.size v) (p v) ((prefix n p k).live v) (ok v m) (λ a h. prefix_one n p k v a (omega arith) ∙ ne_eqb a (p v) (λ e. omega arith)) (prefix_one n p k v (p v) (omega arith) ∙ eq-eqb (p v) (p v) refl))

-- p with choice a at k
unfoldable pub chosen : (ℕ → ℕ) → ℕ → ℕ → ℕ → ℕ
chosen p k a v = cond (eqb v k) a (p v)

pub chosen_here : (p : ℕ → ℕ) (k a : ℕ) → chosen p k a k ≡ a
unfolding chosen
chosen_here p k a = rw (eq-eqb k k refl)

pub chosen_below : (p : ℕ → ℕ) (k a v : ℕ) → v < k → chosen p k a v ≡ p v
unfolding chosen
chosen_below p k a v l = rw (ne_eqb v k (λ e. omega arith))

prefix-child : (n : Net) (p : ℕ → ℕ) (k a : ℕ) → child (prefix n p k) k a ≡ prefix n (chosen p k a) (suc k)
prefix-child n p k a = rw (prefix_same n (chosen p k a) p k (λ v l. chosen_below p k a v l), chosen_here p k a)

-- every value of the branched variable is searched, in turn
each_all : (n : Net) (p : ℕ → ℕ) (k : ℕ) (f : ℕ → State → State) (c : ℕ) (s : State) → c ≤ n.size k → each_to (λ a x. cond ((prefix n p k).live k a) (f a x) x) c s ≡ each_to f c s
each_all n p k f zero s l = refl
each_all n p k f (suc c) s l =
    let e : (prefix n p k).live k c ≡ true = prefix_all n p k k c (omega arith) ∙ lt-ltb c (n.size k) (omega arith) in
    rw e (ap (f c) (each_all n p k f c s (omega arith)))

pub each_child : (e : Engine) (g : Gate) (r : ℕ) (p : ℕ → ℕ) (k : ℕ) (s : State)
    → each_live e.net (prefix e.net p k) k (λ a. visit e g r (child (prefix e.net p k) k a)) s ≡ each_to (λ a. visit e g r (prefix e.net (chosen p k a) (suc k))) (e.net.size k) s
each_child e g r p k s = each_all e.net p k (λ a. visit e g r (child (prefix e.net p k) k a)) (e.net.size k) s (omega arith) ∙ each_same (e.net.size k) s
  where
    each_same : (c : ℕ) (t : State) → each_to (λ a. visit e g r (child (prefix e.net p k) k a)) c t ≡ each_to (λ a. visit e g r (prefix e.net (chosen p k a) (suc k))) c t
    each_same zero t = refl
    each_same (suc c) t = rw (prefix-child e.net p k c, each_same c t)

-- the look at such a node: it closes, it finds, or it is branched
module _ (n : Net) (held : Costs) (p : ℕ → ℕ) (k best : ℕ) (within : k ≤ n.vars) where
  abbrev d : TreeNode
  d = prefix n p k

  abbrev constant : ℕ
  constant = (pass n d.live held).costs.constant

  abbrev steps : List Step
  steps = map Shift (pass n d.live held).shifts ++ (Close ∷ [])

  look : first_look n held d best ≡ cond (leb best constant) (closes steps) (cond (ltb k n.vars) (opens [] d k) (finds (plan_of n d) constant steps))
  unfolding first_look
  look = rw (lowest_free n p k within)

  pub look_closes : best ≤ constant → first_look n held d best ≡ closes steps
  look_closes l = look ∙ rw (le-leb best constant l)

  pub look_finds : constant < best → k ≡ n.vars → ((v : ℕ) → v < n.vars → p v < n.size v) → first_look n held d best ≡ finds (list_to n.vars p) constant steps
  look_finds l e ok = look ∙ rw (lt-leb best constant l, le-ltb k n.vars (omega arith), full_plan n p k (omega arith) ok)

  pub look_opens : constant < best → k < n.vars → first_look n held d best ≡ opens [] d k
  look_opens l m = look ∙ rw (lt-leb best constant l, lt-ltb k n.vars m)

-- An engine whose steps keep the rules at each node writes a record that keeps them, and the node count is the record's own. Assumes nothing.
use Rattle.std.proofs.Common.{ℕ, zero, suc, ◌+◌, ◌≤◌, ◌<◌, ◌≡◌, refl, sym, ap, Bool, true, false, cond, List, [], ◌∷◌, ◌++◌, append_assoc, append-nil, arith, T}
use Rattle.std.proofs.Math.Option.{none}
use Rattle.answers.specs.Answers.{Done}
use Rattle.costs.specs.Range.{sum_to}
use Rattle.boxes.specs.Loops.{each_to}
use Rattle.costs.specs.Net.{Costs}
use Rattle.records.specs.Trees.{TreeNode, root, child, children}
use Rattle.records.specs.declared.steps.Step.{Step}
use Rattle.records.specs.declared.steps.Step.TheVariants.{Branch, Shift, Close}
use Rattle.records.specs.Rules.{Claim, claim_of, Spells, Keeps, nodes_in}
use Rattle.engines.specs.Rightness.{Cut, LookRight, Right, LookWrites, Writes}
use Rattle.engines.specs.Engines.{Look, closes, finds, opens, State, Engine, Gate, opened_at, taken, each_live, visit, begin, searched}
use Rattle.engines.proofs.RightEngines.{post_le, unbranched, child_unbranched, visit_elim, visit_going, each_going, visit_post, all_free}

pub nodes_in-append : (xs ys : List Step) → nodes_in (xs ++ ys) ≡ nodes_in xs + nodes_in ys
nodes_in-append [] ys = omega arith
nodes_in-append (Branch i ∷ xs) ys = omega (arith, nodes_in-append xs ys)
nodes_in-append (Shift x ∷ xs) ys = nodes_in-append xs ys
nodes_in-append (Close ∷ xs) ys = omega (arith, nodes_in-append xs ys)

-- what was written from s to t spells the nodes that h puts in front
pub record Wrote (r : Claim) (h : List TreeNode → List TreeNode) (s t : State) : Type 0 where
  pub new : List Step
  pub steps : t.steps ≡ s.steps ++ new
  pub count : t.count ≡ s.count + nodes_in new
  pub spells : (ds : List TreeNode) (ss : List Step) → Spells r ds none ss → Spells r (h ds) none (new ++ ss)

wrote_then : (r : Claim) (g h : List TreeNode → List TreeNode) (s t u : State) → Wrote r g s t → Wrote r h t u → Wrote r (λ ds. g (h ds)) s u
wrote_then r g h s t u x y = record {
  new = x.new ++ y.new;
  steps = rw (y.steps, x.steps, append_assoc);
  count = omega (arith, x.count, y.count, nodes_in-append x.new y.new);
  spells = λ ds ss w. rw append_assoc (x.spells (h ds) (y.new ++ ss) (y.spells ds ss w));
}

wrote_nothing : (r : Claim) (s : State) → Wrote r (λ ds. ds) s s
wrote_nothing r s = record { new = []; steps = sym (append-nil _); count = omega arith; spells = λ ds ss w. w }

module _ (e : Engine) (held : Costs) (I : TreeNode → Type 0) (right : Right e held I) (writes : Writes e held I) (g : Gate) (goal : ℕ) where
  abbrev R : Claim
  R = claim_of e.net held goal

  one_wrote : (d : TreeNode) (i a : ℕ) (x y : State) → (T (d.live i a) → goal ≤ y.best → y.ended ≡ Done → Wrote R (λ ds. child d i a ∷ ds) x y)
      → (T (d.live i a) → y.ended ≡ Done → y.best ≤ x.best) → goal ≤ (cond (d.live i a) y x).best → (cond (d.live i a) y x).ended ≡ Done
      → Wrote R (λ ds. cond (d.live i a) (child d i a ∷ ds) ds) x (cond (d.live i a) y x) × (goal ≤ x.best)
  one_wrote d i a x y f fall l k = go (d.live i a) f fall l k
    where
      go : (t : Bool) → (T t → goal ≤ y.best → y.ended ≡ Done → Wrote R (λ ds. child d i a ∷ ds) x y) → (T t → y.ended ≡ Done → y.best ≤ x.best)
          → goal ≤ (cond t y x).best → (cond t y x).ended ≡ Done → Wrote R (λ ds. cond t (child d i a ∷ ds) ds) x (cond t y x) × (goal ≤ x.best)
      go true f fall l k = (f tt l k, omega (arith, fall tt k))
      go false f fall l k = (wrote_nothing R x, l)

  each_wrote : (d : TreeNode) (i : ℕ) (f : ℕ → State → State) → ((a : ℕ) (x : State) → (f a x).ended ≡ Done → x.ended ≡ Done)
      → (c : ℕ) → ((a : ℕ) → a < c → T (d.live i a) → (x : State) → goal ≤ (f a x).best → (f a x).ended ≡ Done → Wrote R (λ ds. child d i a ∷ ds) x (f a x))
      → ((a : ℕ) → a < c → T (d.live i a) → (x : State) → (f a x).ended ≡ Done → (f a x).best ≤ x.best)
      → (s : State) → goal ≤ (each_to (λ a x. cond (d.live i a) (f a x) x) c s).best → (each_to (λ a x. cond (d.live i a) (f a x) x) c s).ended ≡ Done
      → Wrote R (children d i c) s (each_to (λ a x. cond (d.live i a) (f a x) x) c s) × (goal ≤ s.best)
  each_wrote d i f goes zero h fall s l k = (wrote_nothing R s, l)
  each_wrote d i f goes (suc c) h fall s l k =
      let w = one_wrote d i c x (f c x) (λ t. h c (omega arith) t x) (λ t. fall c (omega arith) t x) l k in
      let z = each_wrote d i f goes c (λ a m. h a (omega arith)) (λ a m. fall a (omega arith)) s w.1 (each_going (d.live i c) (f c x) x (goes c x) k) in
      (wrote_then R (children d i c) (λ ds. cond (d.live i c) (child d i c ∷ ds) ds) s x (cond (d.live i c) (f c x) x) z.0 w.0, z.1)
    where
      x : State
      x = each_to (λ a x. cond (d.live i a) (f a x) x) c s

  pub visit_wrote : (r : ℕ) (d : TreeNode) (s : State) → I d → unbranched e.net d < r → goal ≤ (visit e g r d s).best → (visit e g r d s).ended ≡ Done → Wrote R (λ ds. d ∷ ds) s (visit e g r d s)
  visit_wrote zero d s inv l b k = absurd (omega arith)
  visit_wrote (suc r) d s inv l b k = visit_elim (λ t. goal ≤ t.best → Wrote R (λ ds. d ∷ ds) s t) e g r d s k
      (λ k b. go (e.look d s.best) (right.look d s.best inv) (writes.look goal d s.best inv)
      (λ d' i a h m t x b k. visit_wrote r (child d' i a) x (h.next a m t) (left d' i a h) b k)
      (λ d' i a h m t x k. post_le e.net held (visit_post e held I right g r (child d' i a) x (h.next a m t) (left d' i a h) k)) b k) b
    where
      left : (d' : TreeNode) (i a : ℕ) → Cut e.net held I d s.best d' i → unbranched e.net (child d' i a) < r
      left d' i a h = omega (arith, child_unbranched e.net d' i a h.variable h.free, ap (λ (z : ℕ → Bool). sum_to e.net.vars (λ v. cond (z v) 0 1)) h.above)

      go : (y : Look) → LookRight e.net held I d s.best y → LookWrites R d s.best y
          → ((d' : TreeNode) (i a : ℕ) → Cut e.net held I d s.best d' i → a < e.net.size i → T (d'.live i a) → (x : State) → goal ≤ (visit e g r (child d' i a) x).best → (visit e g r (child d' i a) x).ended ≡ Done
          → Wrote R (λ ds. child d' i a ∷ ds) x (visit e g r (child d' i a) x))
          → ((d' : TreeNode) (i a : ℕ) → Cut e.net held I d s.best d' i → a < e.net.size i → T (d'.live i a) → (x : State) → (visit e g r (child d' i a) x).ended ≡ Done → (visit e g r (child d' i a) x).best ≤ x.best)
          → goal ≤ (taken y s (λ d' i. each_live e.net d' i (λ a. visit e g r (child d' i a)))).best → (taken y s (λ d' i. each_live e.net d' i (λ a. visit e g r (child d' i a)))).ended ≡ Done
          → Wrote R (λ ds. d ∷ ds) s (taken y s (λ d' i. each_live e.net d' i (λ a. visit e g r (child d' i a))))
      go (closes w) h x f fall b k = record { new = w; steps = refl; count = rw x.one refl; spells = x.spells b }
      go (finds q c w) h x f fall b k = record { new = w; steps = refl; count = rw x.one refl; spells = x.spells b }
      go (opens w d' i) h x f fall b k =
          let y' = each_wrote d' i (λ a. visit e g r (child d' i a)) (λ a. visit_going e g r (child d' i a)) (e.net.size i) (λ a m t. f d' i a h m t) (λ a m t. fall d' i a h m t) (opened_at w i s) b k in
          let y = y'.0 in
          record {
            new = w ++ (Branch i ∷ y.new);
            steps = rw y.steps (simp append_assoc);
            count = omega (arith, y.count, nodes_in-append w (Branch i ∷ y.new), x.zero);
            spells = λ ds ss z. rw append_assoc (x.spells y'.1 ds (y.new ++ ss) (y.spells ds ss z));
          }

module _ (e : Engine) (held : Costs) (I : TreeNode → Type 0) (right : Right e held I) (writes : Writes e held I) (g : Gate) (k : (searched e g).ended ≡ Done) where
  wrote : Wrote (claim_of e.net held (searched e g).best) (λ ds. root e.net ∷ ds) (begin e.net.top) (searched e g)
  wrote = visit_wrote e held I right writes g (searched e g).best (suc e.net.vars) (root e.net) (begin e.net.top) right.root (omega (arith, all_free e.net.vars)) (omega arith) k

  -- the steps of a finished search are a record of the cost that it found
  pub searched_keeps : Keeps (claim_of e.net held (searched e g).best) (searched e g).steps
  searched_keeps = rw (wrote.steps, ← (append-nil wrote.new)) (wrote.spells [] [] tt)

  -- "The node count equals the branch and close steps of the record"
  pub searched_count : (searched e g).count ≡ nodes_in (searched e g).steps
  searched_count = rw wrote.steps (omega (arith, wrote.count))

-- A search with a budget refuses exactly where the search without one counts more nodes, and else is the same search. Assumes nothing.
use Rattle.std.proofs.Common.{Err, ℕ, zero, suc, ◌≤◌, ◌<◌, ◌≡◌, refl, sym, ap, ◌∙◌, Bool, true, false, cond, arith, T, ltb, ltb→lt, lt→ltb}
use Rattle.std.proofs.Math.Decide.{dec_le}
use Rattle.answers.specs.Answers.{Done, number_of}
use Rattle.answers.specs.declared.Refusal.TheVariants.{OverBudget}
use Rattle.boxes.specs.Loops.{each_to}
use Rattle.records.specs.Trees.{TreeNode, root, child}
use Rattle.engines.specs.Engines.{Look, closes, finds, opens, State, Engine, Gate, never, closed_at, found_at, opened_at, ended_by, refuses, taken, each_live, visit, begin, searched, budget}
use Rattle.engines.proofs.RightEngines.{visit_stops, visit_enters}

-- the count only grows
each_grows : (d : TreeNode) (i : ℕ) (f : ℕ → State → State) → ((a : ℕ) (x : State) → x.count ≤ (f a x).count) → (c : ℕ) (s : State) → s.count ≤ (each_to (λ a x. cond (d.live i a) (f a x) x) c s).count
each_grows d i f h zero s = omega arith
each_grows d i f h (suc c) s = omega (arith, each_grows d i f h c s, one (d.live i c) (each_to (λ a x. cond (d.live i a) (f a x) x) c s))
  where
    one : (t : Bool) (x : State) → x.count ≤ (cond t (f c x) x).count
    one true x = h c x
    one false x = omega arith

either_grows : (b : Bool) (s y z : State) → s.count ≤ y.count → s.count ≤ z.count → s.count ≤ (cond b y z).count
either_grows true s y z l m = l
either_grows false s y z l m = m

pub visit_grows : (e : Engine) (g : Gate) (r : ℕ) (d : TreeNode) (s : State) → s.count ≤ (visit e g r d s).count
unfolding visit
visit_grows e g zero d s = omega arith
visit_grows e g (suc r) d s =
    either_grows (refuses s.ended) s s _ (omega arith) (either_grows (refuses (g s)) s (ended_by (g s) s) _ (omega arith) (go (e.look d s.best) (λ d' i a x. visit_grows e g r (child d' i a) x)))
  where
    go : (y : Look) → ((d' : TreeNode) (i a : ℕ) (x : State) → x.count ≤ (visit e g r (child d' i a) x).count) → s.count ≤ (taken y s (λ d' i. each_live e.net d' i (λ a. visit e g r (child d' i a)))).count
    go (closes w) f = omega arith
    go (finds q c w) f = omega arith
    go (opens w d' i) f = omega (arith, each_grows d' i (λ a. visit e g r (child d' i a)) (f d' i) (e.net.size i) (opened_at w i s))

-- without a gate no search ends early
each_never : (d : TreeNode) (i : ℕ) (f : ℕ → State → State) → ((a : ℕ) (x : State) → x.ended ≡ Done → (f a x).ended ≡ Done) → (c : ℕ) (s : State) → s.ended ≡ Done → (each_to (λ a x. cond (d.live i a) (f a x) x) c s).ended ≡ Done
each_never d i f h zero s k = k
each_never d i f h (suc c) s k = one (d.live i c) (each_to (λ a x. cond (d.live i a) (f a x) x) c s) (each_never d i f h c s k)
  where
    one : (t : Bool) (x : State) → x.ended ≡ Done → (cond t (f c x) x).ended ≡ Done
    one true x k = h c x k
    one false x k = k

pub visit-never : (e : Engine) (r : ℕ) (d : TreeNode) (s : State) → s.ended ≡ Done → (visit e never r d s).ended ≡ Done
unfolding visit
visit-never e zero d s k = k
visit-never e (suc r) d s k = rw (visit_enters e never r d s k) (go (e.look d s.best) (λ d' i a x. visit-never e r (child d' i a) x))
  where
    go : (y : Look) → ((d' : TreeNode) (i a : ℕ) (x : State) → x.ended ≡ Done → (visit e never r (child d' i a) x).ended ≡ Done)
        → (taken y s (λ d' i. each_live e.net d' i (λ a. visit e never r (child d' i a)))).ended ≡ Done
    go (closes w) f = k
    go (finds q c w) f = k
    go (opens w d' i) f = each_never d' i (λ a. visit e never r (child d' i a)) (f d' i) (e.net.size i) (opened_at w i s) k

-- t without a budget, y with the budget m: the same within it, refused past it
pub record Agree (m : ℕ) (t y : State) : Type 0 where
  pub goes : t.ended ≡ Done
  pub within : t.count ≤ m → y ≡ t
  pub past : m < t.count → y.ended ≡ Err OverBudget

over_refuses : (s : State) → s.ended ≡ Err OverBudget → refuses s.ended ≡ true
over_refuses s e = rw e

module _ (e : Engine) (m : ℕ) where
  one_agrees : (d : TreeNode) (r : ℕ) (t y : State) → ((x : State) → x.ended ≡ Done → x.count ≤ m → Agree m (visit e never r d x) (visit e (budget m) r d x))
      → (b : Bool) → Agree m t y → Agree m (cond b (visit e never r d t) t) (cond b (visit e (budget m) r d y) y)
  one_agrees d r t y f false h = h
  one_agrees d r t y f true h = elim (dec_le t.count m) [
    | yes q ↦ rw (h.within q) (f t h.goes q)
    | no q ↦ record {
      goes = visit-never e r d t h.goes;
      within = λ l. absurd (omega (arith, visit_grows e never r d t));
      past = λ l. rw (visit_stops e (budget m) r d y (over_refuses y (h.past (omega arith)))) (h.past (omega arith));
    }
  ]

  each_agrees : (d : TreeNode) (i r : ℕ) → ((a : ℕ) (x : State) → x.ended ≡ Done → x.count ≤ m → Agree m (visit e never r (child d i a) x) (visit e (budget m) r (child d i a) x)) → (c : ℕ) (s : State)
      → Agree m s s → Agree m (each_to (λ a x. cond (d.live i a) (visit e never r (child d i a) x) x) c s) (each_to (λ a x. cond (d.live i a) (visit e (budget m) r (child d i a) x) x) c s)
  each_agrees d i r f zero s h = h
  each_agrees d i r f (suc c) s h = one_agrees (child d i c) r _ _ (f c) (d.live i c) (each_agrees d i r f c s h)

  pub visit_agrees : (r : ℕ) (d : TreeNode) (s : State) → s.ended ≡ Done → s.count ≤ m → Agree m (visit e never r d s) (visit e (budget m) r d s)
  unfolding visit budget
  visit_agrees zero d s k l = record { goes = k; within = λ x. refl; past = λ x. absurd (omega arith) }
  visit_agrees (suc r) d s k l = rw (visit_enters e never r d s k, visit_enters e (budget m) r d s k) (go (ltb s.count m) (ltb→lt s.count m) (lt→ltb s.count m) (e.look d s.best) goes (λ d' i a x. visit_agrees r (child d' i a) x))
    where
      same : (t : State) → t.ended ≡ Done → t.count ≤ m → Agree m t t
      same t k l = record { goes = k; within = λ x. refl; past = λ x. absurd (omega arith) }

      inside : (y : Look) → s.count < m → ((d' : TreeNode) (i a : ℕ) (x : State) → x.ended ≡ Done → x.count ≤ m → Agree m (visit e never r (child d' i a) x) (visit e (budget m) r (child d' i a) x))
          → Agree m (taken y s (λ d' i. each_live e.net d' i (λ a. visit e never r (child d' i a)))) (taken y s (λ d' i. each_live e.net d' i (λ a. visit e (budget m) r (child d' i a))))
      inside (closes w) q f = same (closed_at w s) k (omega arith)
      inside (finds p c w) q f = same (found_at p c w s) k (omega arith)
      inside (opens w d' i) q f = each_agrees d' i r (f d' i) (e.net.size i) (opened_at w i s) (same (opened_at w i s) k (omega arith))

      counts : (y : Look) → s.count < (taken y s (λ d' i. each_live e.net d' i (λ a. visit e never r (child d' i a)))).count
      counts (closes w) = omega arith
      counts (finds p c w) = omega arith
      counts (opens w d' i) = omega (arith, each_grows d' i (λ a. visit e never r (child d' i a)) (λ a. visit_grows e never r (child d' i a)) (e.net.size i) (opened_at w i s))

      goes : (taken (e.look d s.best) s (λ d' i. each_live e.net d' i (λ a. visit e never r (child d' i a)))).ended ≡ Done
      goes = rw (visit_enters e never r d s k) at (visit-never e (suc r) d s k)

      go : (b : Bool) → (T b → s.count < m) → (s.count < m → T b) → (y : Look) → (taken y s (λ d' i. each_live e.net d' i (λ a. visit e never r (child d' i a)))).ended ≡ Done
          → ((d' : TreeNode) (i a : ℕ) (x : State) → x.ended ≡ Done → x.count ≤ m → Agree m (visit e never r (child d' i a) x) (visit e (budget m) r (child d' i a) x))
          → Agree m (taken y s (λ d' i. each_live e.net d' i (λ a. visit e never r (child d' i a))))
          (cond (refuses (cond b Done (Err OverBudget))) (ended_by (cond b Done (Err OverBudget)) s) (taken y s (λ d' i. each_live e.net d' i (λ a. visit e (budget m) r (child d' i a)))))
      go true p q y h f = inside y (p tt) f
      go false p q y h f = record { goes = h; within = λ l. absurd (q (omega (arith, counts y))); past = λ l. refl }

-- the search with a budget
module _ (e : Engine) (m : ℕ) where
  agrees : Agree m (searched e never) (searched e (budget m))
  agrees = visit_agrees e m (suc e.net.vars) (root e.net) (begin e.net.top) refl (omega arith)

  -- it is refused exactly where more nodes are needed than the budget
  pub refused_past : m < (searched e never).count → (searched e (budget m)).ended ≡ Err OverBudget
  refused_past = agrees.past

  -- else it is the search without one
  pub same_within : (searched e never).count ≤ m → searched e (budget m) ≡ searched e never
  same_within = agrees.within

  pub finished_within : (searched e (budget m)).ended ≡ Done → (searched e never).count ≤ m
  finished_within k = elim (dec_le (searched e never).count m) [ yes q ↦ q | no q ↦ absurd (let e : number_of Done ≡ number_of (Err OverBudget) = ap number_of (sym k ∙ agrees.past (omega arith)) in omega (arith, e)) ]

-- M-111: "a search that finishes with some budget gives the same plan, price, count and record with any larger budget"
pub larger_same : (e : Engine) (m m' : ℕ) → m ≤ m' → (searched e (budget m)).ended ≡ Done → searched e (budget m') ≡ searched e (budget m)
larger_same e m m' l k =
    let c = finished_within e m k in
    same_within e m' (omega arith) ∙ sym (same_within e m c)

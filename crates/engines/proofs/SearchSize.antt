-- How many nodes a search enters, and how many steps it writes, at most. Assumes nothing.
use Rattle.std.proofs.Common.{ℕ, zero, suc, ◌+◌, ◌*◌, ◌≤◌, ◌<◌, ◌≡◌, sym, ap, ◌∙◌, Bool, true, false, cond, [], ◌∷◌, ◌++◌, arith, mul-one, mul_comm, mul_left_comm, mul-suc, suc-mul, add-one, T, eqb, eqb→eq, length, length-append}
use Rattle.std.proofs.Math.Dec.{eqb_refl}
use Rattle.costs.proofs.TestLaws.{is_true, is_false}
use Rattle.boxes.proofs.LoopLaws.{each_keeps, each_adds}
use Rattle.costs.specs.Range.{product_to}
use Rattle.costs.proofs.RangeLaws.{product_point, product_pos}
use Rattle.costs.specs.Net.{Net, Costs, Sound}
use Rattle.records.specs.Trees.{TreeNode, child}
use Rattle.records.specs.declared.steps.Step.TheVariants.{Branch}
use Rattle.engines.specs.Rightness.{Cut, LookRight, Right, LookShort}
use Rattle.engines.specs.Engines.{Look, closes, finds, opens, State, Engine, Gate, opened_at, ended_by, refuses, taken, each_live, visit}

-- the plans below a node: the product of the sizes of the variables not branched above
abbrev pub span : Net → TreeNode → ℕ
span n d = product_to n.vars (λ v. cond (d.branched v) 1 (n.size v))

span_child : (n : Net) (d : TreeNode) (i a : ℕ) → i < n.vars → d.branched i ≡ false → span n d ≡ n.size i * span n (child d i a)
span_child n d i a l h =
    let r = product_point n.vars i (λ v. cond (d.branched v) 1 (n.size v)) (λ v. cond ((child d i a).branched v) 1 (n.size v)) l (λ j m x. rw (is_false (eqb j i) (λ t. x (eqb→eq j i t)))) in
    let x : span n d ≡ r.0 * n.size i = r.1 ∙ ap (λ (z : ℕ). r.0 * z) here in
    let y : span n (child d i a) ≡ r.0 = r.2 ∙ ap (λ (z : ℕ). r.0 * z) there ∙ mul-one r.0 in
    x ∙ mul_comm r.0 (n.size i) ∙ sym (ap (λ (z : ℕ). n.size i * z) y)
  where
    here : cond (d.branched i) 1 (n.size i) ≡ n.size i
    here = rw h

    there : ◌≡◌ {A = ℕ} (cond ((child d i a).branched i) 1 (n.size i)) 1
    there = rw (is_true (eqb i i) (eqb_refl i))

span_pos : (n : Net) → Sound n → (d : TreeNode) → 0 < span n d
span_pos n good d = product_pos n.vars (λ v. cond (d.branched v) 1 (n.size v)) (λ v l. go (d.branched v) v l)
  where
    go : (t : Bool) (v : ℕ) → v < n.vars → 0 < cond t 1 (n.size v)
    go true v l = omega arith
    go false v l = good.sized v l

either_count : (b : Bool) (s y : State) (m : ℕ) → s.count ≤ m → y.count ≤ m → (cond b s y).count ≤ m
either_count true s y m l h = l
either_count false s y m l h = h

-- so there are at most k steps to a node
abbrev pub Short : ℕ → State → Type 0
Short k s = length s.steps ≤ k * s.count

-- a search counts at most as many nodes as levels times plans
module _ (e : Engine) (held : Costs) (I : TreeNode → Type 0) (right : Right e held I) (good : Sound e.net) (g : Gate) where
  pub visit_count : (r : ℕ) (d : TreeNode) (s : State) → I d → (visit e g r d s).count ≤ s.count + r * span e.net d
  unfolding visit
  visit_count zero d s inv = omega arith
  visit_count (suc r) d s inv =
      either_count (refuses s.ended) s _ _ (omega arith) (either_count (refuses (g s)) (ended_by (g s) s) _ _ (omega arith) (rw (suc-mul r (span e.net d)) (go (e.look d s.best) (right.look d s.best inv) (λ d' i a k l t x. visit_count r (child d' i a) x (k.next a l t)))))
    where
      go : (y : Look) → LookRight e.net held I d s.best y
          → ((d' : TreeNode) (i a : ℕ) → Cut e.net held I d s.best d' i → a < e.net.size i → T (d'.live i a) → (x : State) → (visit e g r (child d' i a) x).count ≤ x.count + r * span e.net (child d' i a))
          → (taken y s (λ d' i. each_live e.net d' i (λ a. visit e g r (child d' i a)))).count ≤ s.count + (r * span e.net d + span e.net d)
      go (closes w) k f = omega (arith, span_pos e.net good d)
      go (finds q c w) k f = omega (arith, span_pos e.net good d)
      go (opens w d' i) k f =
          omega (arith, each_adds (λ x. x.count) (λ a x. cond (d'.live i a) (visit e g r (child d' i a) x) x) (r * span e.net (child d' i 0)) (e.net.size i) (λ a l x. one a x (d'.live i a) (λ t. f d' i a k l t x)) (opened_at w i s), total, span_pos e.net good d)
        where
          one : (a : ℕ) (x : State) (t : Bool) → (T t → (visit e g r (child d' i a) x).count ≤ x.count + r * span e.net (child d' i a)) → (cond t (visit e g r (child d' i a) x) x).count ≤ x.count + r * span e.net (child d' i 0)
          one a x true f = f tt
          one a x false f = omega arith

          total : e.net.size i * (r * span e.net (child d' i 0)) ≡ r * span e.net d
          total = mul_left_comm (e.net.size i) r (span e.net (child d' i 0)) ∙ ap (λ (z : ℕ). r * z) (sym (span_child e.net d' i 0 k.variable k.free) ∙ ap (λ (z : ℕ → Bool). product_to e.net.vars (λ v. cond (z v) 1 (e.net.size v))) k.above)

  either_short : (k : ℕ) (b : Bool) (s y : State) → Short k s → Short k y → Short k (cond b s y)
  either_short k true s y l h = l
  either_short k false s y l h = h

  pub visit_short : (k : ℕ) → ((d : TreeNode) (b : ℕ) → I d → LookShort k (e.look d b)) → (r : ℕ) (d : TreeNode) (s : State) → I d → Short k s → Short k (visit e g r d s)
  unfolding visit
  visit_short k brief zero d s inv h = h
  visit_short k brief (suc r) d s inv h =
      either_short k (refuses s.ended) s _ h (either_short k (refuses (g s)) (ended_by (g s) s) _ h (go (e.look d s.best) (right.look d s.best inv) (brief d s.best inv) (λ d' i a m l t x. visit_short k brief r (child d' i a) x (m.next a l t))))
    where
      more : k * (s.count + 1) ≡ k * s.count + k
      more = ap (λ (z : ℕ). k * z) (add-one s.count) ∙ mul-suc k s.count

      go : (y : Look) → LookRight e.net held I d s.best y → LookShort k y
          → ((d' : TreeNode) (i a : ℕ) → Cut e.net held I d s.best d' i → a < e.net.size i → T (d'.live i a) → (x : State) → Short k x → Short k (visit e g r (child d' i a) x))
          → Short k (taken y s (λ d' i. each_live e.net d' i (λ a. visit e g r (child d' i a))))
      go (closes w) m b f = omega (arith, more, length-append s.steps w)
      go (finds q c w) m b f = omega (arith, more, length-append s.steps w)
      go (opens w d' i) m b f =
          each_keeps (Short k) (λ a x. cond (d'.live i a) (visit e g r (child d' i a) x) x) (e.net.size i) (λ a l x h. one a x (d'.live i a) h (λ t. f d' i a m l t x)) (opened_at w i s)
          (omega (arith, more, length-append s.steps (w ++ (Branch i ∷ [])), length-append w (Branch i ∷ [])))
        where
          one : (a : ℕ) (x : State) (t : Bool) → Short k x → (T t → Short k x → Short k (visit e g r (child d' i a) x)) → Short k (cond t (visit e g r (child d' i a) x) x)
          one a x true h f = f tt h
          one a x false h f = h

-- At a node where every variable is fixed, the pass's constant is the price of its plan. After the projections the plan touches no function cost above 0,
-- and after the raises no unary cost, unless a cost of k stands in the way: and that reaches the constant. Assumes nothing.
use Rattle.std.proofs.Common.{ℕ, zero, suc, ◌+◌, ◌-◌, ◌*◌, ◌/◌, ◌%◌, ◌≤◌, ◌<◌, min, ◌≡◌, refl, sym, ap, ◌∙◌, Bool, true, false, cond, ◌⊎◌, inl, inr, ⊎_elim, ◌≢◌, List, [], ◌∷◌, arith, mod-lt, div-add-mod', mul-zero, T, eqb, eqb→eq, length}
use Rattle.std.proofs.Math.Decide.{ℕ_discrete, dec_lt}
use Rattle.std.proofs.Math.Dec.{eqb_refl}
use Rattle.costs.specs.Cost.{plus, minus}
use Rattle.costs.specs.Range.{sum_to}
use Rattle.costs.specs.Net.{Net, Costs, Sound, All, tuples, entry, start, touched, price}
use Rattle.costs.specs.Tests.{among}
use Rattle.costs.proofs.TestLaws.{both, is_true}
use Rattle.costs.proofs.CostLaws.{minus_cases}
use Rattle.costs.proofs.NetLaws.{All-map, price_capped}
use Rattle.boxes.specs.Loops.{each_to}
use Rattle.boxes.proofs.LoopLaws.{each_keeps, each_makes, least_to_ge}
use Rattle.shifts.specs.declared.moves.Move.{Move}
use Rattle.shifts.specs.declared.moves.Move.TheVariants.{Project, Raise}
use Rattle.shifts.specs.Nodes.{fixing, live_entry, Fits, least, Settled}
use Rattle.shifts.specs.Moves.{shifted}
use Rattle.shifts.proofs.NodeLaws.{live_plan, fixing_plan, live_plan_all, hit_own, hit_other, least-gives, least_cap}
use Rattle.shifts.proofs.ShiftsKeepPrices.{at_giver, at_taker, at_rest, unary_scoped, lives_on}
use Rattle.passes.specs.Passing.{Work, shift_by, at_value, at_scope, projections, at_variable, pass}
use Rattle.passes.proofs.PassIsLegal.{choose, scope_members, pass_constant, pass_keeps_prices}

-- where each variable has one live value, one tuple of a scope is live
entry_only : (size p : ℕ → ℕ) (live : ℕ → ℕ → Bool) (vs : List ℕ) → All (λ v. (b : ℕ) → T (live v b) → b ≡ p v) vs → (e : ℕ) → e < tuples size vs → T (live_entry size live vs e)
    → e ≡ entry size p vs
entry_only size p live [] h e x t = omega arith
entry_only size p live (v ∷ vs) h e x t =
    sym (div-add-mod' e (tuples size vs))
    ∙ rw (h.0 (e / tuples size vs) (both (live v (e / tuples size vs)) _ t).0, entry_only size p live vs h.1 (e % tuples size vs) (mod-lt e some) (both (live v (e / tuples size vs)) _ t).1)
  where
    some : 0 < tuples size vs
    some = elim (dec_lt 0 (tuples size vs)) [ yes q ↦ q | no q ↦ absurd (none (omega arith)) ]
      where
        none : tuples size vs ≡ 0 → ⊥
        none z = omega (arith, ap (λ (y : ℕ). size v * y) z, mul-zero (size v))

-- a sum is 0, or what keeps one of its terms from being so
sum_gone : (n : ℕ) (g : ℕ → ℕ) (Z : Type 0) → ((s : ℕ) → s < n → (g s ≡ 0) ⊎ Z) → (sum_to n g ≡ 0) ⊎ Z
sum_gone zero g Z h = inl refl
sum_gone (suc n) g Z h = go (sum_gone n g Z (λ s l. h s (omega arith))) (h n (omega arith))
  where
    go : (sum_to n g ≡ 0) ⊎ Z → (g n ≡ 0) ⊎ Z → (sum_to n g + g n ≡ 0) ⊎ Z
    go (inl x) (inl y) = inl (omega arith)
    go (inl x) (inr y) = inr y
    go (inr x) y = inr x

-- what holds of the costs where nothing is to be shifted, and after the shift
after_by : (n : Net) (live : ℕ → ℕ → Bool) (P : Costs → Type 0) (x : ℕ → Move) (m : ℕ) (w : Work) → (m ≡ 0 → P w.costs) → P (shifted n live (x m) w.costs) → P (shift_by n live x m w).costs
after_by n live P x zero w f h = f refl
after_by n live P x (suc m) w f h = h

fixing_only : (live : ℕ → ℕ → Bool) (p : ℕ → ℕ) (i v b : ℕ) → (T (live v b) → b ≡ p v) → T (fixing live i (p i) v b) → b ≡ p v
unfolding fixing
fixing_only live p i v b f t = go (eqb v i) (eqb→eq v i) t
  where
    go : (x : Bool) → (T x → v ≡ i) → T (cond x (eqb b (p i)) (live v b)) → b ≡ p v
    go true q t = eqb→eq b (p i) t ∙ ap p (sym (q tt))
    go false q t = f t

module _ (n : Net) (good : Sound n) (live : ℕ → ℕ → Bool) (p : ℕ → ℕ) (fits : Fits n live p) (settled : Settled n live p) (pos : 0 < n.top) where
  -- what the plan touches of part s
  abbrev cost : Costs → ℕ → ℕ
  cost c s = c.at (touched n p s)

  -- the least is what the plan touches
  least_only : (l : ℕ → ℕ → Bool) (c : Costs) (s : ℕ) → s < n.parts → Settled n l p → T (live_plan l p (n.scope s)) → least n l c.at s ≡ min n.top (cost c s)
  unfolding least
  least_only l c s hs one t = omega (
    arith,
    least-gives n l c.at s (touched n p s) (rw (hit_own n good p fits.plan l s hs) t),
    least_cap n l c.at s,
    least_to_ge n.top (min n.top (cost c s)) (live_entry n.size l (n.scope s)) (λ e. c.at (start n s + e)) (tuples n.size (n.scope s)) (omega arith)
        (λ e x y. rw (entry_only n.size p l (n.scope s) (All-map (λ v h b. one v b h) (n.scope s) (good.known s hs)) e x y) (omega arith)),
  )

  -- the plan cannot be paid: the constant, or a unary cost that it touches, is k
  abbrev Unpaid : Costs → Type 0
  Unpaid c = (n.top ≤ c.constant) ⊎ ((j : ℕ) × (j < n.vars) × (n.top ≤ cost c j))

  -- function s costs the plan nothing any more
  abbrev Freed : ℕ → Costs → Type 0
  Freed s c = (cost c s ≡ 0) ⊎ Unpaid c

  -- what a projection from s to r does to what the plan touches
  record Projects (c d : Costs) (s r m : ℕ) : Type 0 where
    constant : d.constant ≡ c.constant
    gave : cost d s ≡ minus n.top (cost c s) m
    took : cost d r ≡ plus n.top (cost c r) m
    others : (x : ℕ) → x < n.parts → x ≢ s → x ≢ r → cost d x ≡ cost c x

  unpaid_stays : (c d : Costs) (s r m : ℕ) → n.vars ≤ s → Projects c d s r m → Unpaid c → Unpaid d
  unpaid_stays c d s r m l h (inl x) = inl (omega (arith, h.constant))
  unpaid_stays c d s r m l h (inr (j, a, b)) =
      inr (j, a, elim (ℕ_discrete j r) [ yes q ↦ rw q (omega (arith, h.took, rw q at b)) | no q ↦ omega (arith, h.others j (omega (arith, good.enough)) (omega arith) q) ])

  freed_now : (c d : Costs) (s r m : ℕ) → n.vars ≤ s → r < n.vars → m ≡ min n.top (cost c s) → Projects c d s r m → Freed s d
  freed_now c d s r m l lr e h = ⊎_elim (λ w. inr (inr (r, lr, omega (arith, h.took)))) (λ w. inl (omega (arith, h.gave))) (minus_cases n.top (cost c s) m)

  freed_stays : (c d : Costs) (s r m x : ℕ) → n.vars ≤ s → r < n.vars → m ≡ min n.top (cost c s) → Projects c d s r m → n.vars ≤ x → x < n.parts → Freed x c → Freed x d
  freed_stays c d s r m x l lr e h lx lx' y = elim (ℕ_discrete x s) [
    | yes q ↦ rw q (freed_now c d s r m l lr e h)
    | no q ↦ ⊎_elim (λ z. inl (h.others x lx' q (omega arith) ∙ z)) (λ z. inr (unpaid_stays c d s r m l h z)) y
  ]

  own_live : (i s : ℕ) → s < n.parts → T (among i (n.scope s)) → live_plan (fixing live i (p i)) p (n.scope s) ≡ true
  own_live i s l m = fixing_plan live p i (p i) (n.scope s) (lives_on n good live p fits s l) m ∙ is_true _ (eqb_refl (p i))

  module _ (f i : ℕ) (lf : n.vars + f < n.parts) (li : i < n.vars) (hi : T (among i (n.scope (n.vars + f)))) where
    projects : (c : Costs) (m : ℕ) → Projects c (shifted n live (Project f i (p i) m) c) (n.vars + f) i m
    unfolding shifted
    projects c m = record {
      constant = refl;
      gave = at_giver n good p fits.plan c m (fixing live i (p i)) (n.vars + f) i lf (omega arith) ∙ rw (own_live i (n.vars + f) lf hi);
      took = at_taker n good p fits.plan c m (fixing live i (p i)) (n.vars + f) i (omega (arith, good.enough)) (omega arith) ∙ rw (own_live i i (omega (arith, good.enough)) (unary_scoped n good i li));
      others = at_rest n good p fits.plan c m (fixing live i (p i)) (n.vars + f) i;
    }

    amount : (c : Costs) → least n (fixing live i (p i)) c.at (n.vars + f) ≡ min n.top (cost c (n.vars + f))
    amount c = least_only (fixing live i (p i)) c (n.vars + f) lf (λ v b l. fixing_only live p i v b (settled v b l)) (rw (own_live i (n.vars + f) lf hi) tt)

    value_keeps : (x : ℕ) → n.vars ≤ x → x < n.parts → (a : ℕ) (w : Work) → Freed x w.costs → Freed x (at_value n live f i a w).costs
    value_keeps x lx lx' a w h =
        choose (λ y. Freed x y.costs) (live i a) _ w
        (λ t. rw (settled i a li t) (after_by n live (Freed x) (Project f i (p i)) (least n (fixing live i (p i)) w.costs.at (n.vars + f)) w (λ e. h)
        (freed_stays w.costs _ (n.vars + f) i _ x (omega arith) li (amount w.costs) (projects w.costs _) lx lx' h)))
        h

    value_frees : (w : Work) → Freed (n.vars + f) (at_value n live f i (p i) w).costs
    value_frees w =
        rw (is_true (live i (p i)) (fits.lives i li))
        (after_by n live (Freed (n.vars + f)) (Project f i (p i)) (least n (fixing live i (p i)) w.costs.at (n.vars + f)) w (λ e. inl (omega (arith, amount w.costs)))
        (freed_now w.costs _ (n.vars + f) i _ (omega arith) li (amount w.costs) (projects w.costs _)))

  module _ (f : ℕ) (lf : n.vars + f < n.parts) where
    scope_keeps : (x : ℕ) → n.vars ≤ x → x < n.parts → (is : List ℕ) → All (λ i. (i < n.vars) × T (among i (n.scope (n.vars + f)))) is → (w : Work) → Freed x w.costs → Freed x (at_scope n live f is w).costs
    scope_keeps x lx lx' [] a w h = h
    scope_keeps x lx lx' (i ∷ is) a w h =
        scope_keeps x lx lx' is a.1 _ (each_keeps (λ y. Freed x y.costs) (at_value n live f i) (n.size i) (λ b l. value_keeps f i lf a.0.0 a.0.1 x lx lx' b) w h)

    scope_frees : (is : List ℕ) → 0 < length is → All (λ i. (i < n.vars) × T (among i (n.scope (n.vars + f)))) is → (w : Work) → Freed (n.vars + f) (at_scope n live f is w).costs
    scope_frees [] l a w = absurd (omega arith)
    scope_frees (i ∷ is) l a w =
        scope_keeps (n.vars + f) (omega arith) lf is a.1 _
        (each_makes (λ y. Freed (n.vars + f) y.costs) (at_value n live f i) (p i) (n.size i) (fits.plan.range i a.0.0) (value_frees f i lf a.0.0 a.0.1)
        (λ b m. value_keeps f i lf a.0.0 a.0.1 (n.vars + f) (omega arith) lf b) w)

  -- after the projections no function costs the plan anything, or it cannot be paid
  projections_free : (f : ℕ) → n.vars + f < n.parts → (w : Work) → Freed (n.vars + f) (projections n live w).costs
  projections_free f l w =
      each_makes (λ y. Freed (n.vars + f) y.costs) (λ h. at_scope n live h (n.scope (n.vars + h))) f (n.parts - n.vars) (omega arith)
      (scope_frees f l (n.scope (n.vars + f)) (good.filled (n.vars + f) l) (scope_members n good (n.vars + f) l))
      (λ b m. scope_keeps b (omega arith) (n.vars + f) (omega arith) l (n.scope (n.vars + b)) (scope_members n good (n.vars + b) (omega arith)))
      w

  -- what raising i does to what the plan touches
  record Rises (c d : Costs) (i m : ℕ) : Type 0 where
    constant : d.constant ≡ plus n.top c.constant m
    gave : cost d i ≡ minus n.top (cost c i) m
    others : (x : ℕ) → x < n.parts → x ≢ i → cost d x ≡ cost c x

  -- part s costs the plan nothing any more, or the constant is k
  abbrev Gone : ℕ → Costs → Type 0
  Gone s c = (cost c s ≡ 0) ⊎ (n.top ≤ c.constant)

  module _ (i : ℕ) (li : i < n.vars) where
    unary_live : T (live_plan live p (n.scope i))
    unary_live = live_plan_all live p (n.scope i) (lives_on n good live p fits i (omega (arith, good.enough)))

    raise_amount : (c : Costs) → least n live c.at i ≡ min n.top (cost c i)
    raise_amount c = least_only live c i (omega (arith, good.enough)) settled unary_live

    rises : (c : Costs) (m : ℕ) → Rises c (shifted n live (Raise i m) c) i m
    unfolding shifted
    rises c m = record {
      constant = refl;
      gave = rw (hit_own n good p fits.plan live i (omega (arith, good.enough)), is_true (live_plan live p (n.scope i)) unary_live);
      others = λ x lx d. rw (hit_other n good p fits.plan live x i lx d);
    }

    rise_keeps_freed : (c d : Costs) (m x : ℕ) → Rises c d i m → m ≡ min n.top (cost c i) → n.vars ≤ x → x < n.parts → Freed x c → Freed x d
    rise_keeps_freed c d m x h e lx lx' (inl z) = inl (h.others x lx' (omega arith) ∙ z)
    rise_keeps_freed c d m x h e lx lx' (inr (inl b)) = inr (inl (omega (arith, h.constant)))
    rise_keeps_freed c d m x h e lx lx' (inr (inr (j, lj, k))) = elim (ℕ_discrete j i) [
      | yes q ↦ inr (inl (omega (arith, h.constant, rw q at k)))
      | no q ↦ inr (inr (j, lj, omega (arith, h.others j (omega arith) q)))
    ]

    rise_gone : (c d : Costs) (m : ℕ) → Rises c d i m → m ≡ min n.top (cost c i) → Gone i d
    rise_gone c d m h e = ⊎_elim (λ w. inr (omega (arith, h.constant))) (λ w. inl (omega (arith, h.gave))) (minus_cases n.top (cost c i) m)

    rise_keeps_gone : (c d : Costs) (m x : ℕ) → Rises c d i m → m ≡ min n.top (cost c i) → x < n.vars → Gone x c → Gone x d
    rise_keeps_gone c d m x h e lx y = elim (ℕ_discrete x i) [
      | yes q ↦ rw q (rise_gone c d m h e)
      | no q ↦ ⊎_elim (λ z. inl (h.others x (omega (arith, good.enough)) q ∙ z)) (λ z. inr (omega (arith, h.constant))) y
    ]

    variable_keeps_freed : (x : ℕ) → n.vars ≤ x → x < n.parts → (w : Work) → Freed x w.costs → Freed x (at_variable n live i w).costs
    variable_keeps_freed x lx lx' w h =
        after_by n live (Freed x) (Raise i) (least n live w.costs.at i) w (λ e. h) (rise_keeps_freed w.costs _ _ x (rises w.costs _) (raise_amount w.costs) lx lx' h)

    variable_keeps_gone : (x : ℕ) → x < n.vars → (w : Work) → Gone x w.costs → Gone x (at_variable n live i w).costs
    variable_keeps_gone x lx w h =
        after_by n live (Gone x) (Raise i) (least n live w.costs.at i) w (λ e. h) (rise_keeps_gone w.costs _ _ x (rises w.costs _) (raise_amount w.costs) lx h)

    variable_gone : (w : Work) → Gone i (at_variable n live i w).costs
    variable_gone w =
        after_by n live (Gone i) (Raise i) (least n live w.costs.at i) w (λ e. inl (omega (arith, raise_amount w.costs))) (rise_gone w.costs _ _ (rises w.costs _) (raise_amount w.costs))

  -- at the end no part costs the plan anything, or the constant is k
  all_gone : (c : Costs) (s : ℕ) → s < n.parts → Gone s (pass n live c).costs
  unfolding pass
  all_gone c s l = elim (dec_lt s n.vars) [ yes q ↦ unary s q | no q ↦ ⊎_elim inl unpaid (function q) ]
    where
      projected : Work
      projected = projections n live (record { costs = c; shifts = [] })

      unary : (i : ℕ) → i < n.vars → Gone i (each_to (at_variable n live) n.vars projected).costs
      unary i li = each_makes (λ y. Gone i y.costs) (at_variable n live) i n.vars li (variable_gone i li) (λ b m. variable_keeps_gone b m i li) projected

      function : ¬ (s < n.vars) → Freed s (each_to (at_variable n live) n.vars projected).costs
      function q =
          each_keeps (λ y. Freed s y.costs) (at_variable n live) n.vars (λ b m. variable_keeps_freed b m s (omega arith) l) projected
          (let e : n.vars + (s - n.vars) ≡ s = omega arith in rw e at (projections_free (s - n.vars) (omega arith) (record { costs = c; shifts = [] })))

      unpaid : Unpaid (each_to (at_variable n live) n.vars projected).costs → Gone s (each_to (at_variable n live) n.vars projected).costs
      unpaid (inl x) = inr x
      unpaid (inr (j, lj, k)) = ⊎_elim (λ z. absurd (omega arith)) inr (unary j lj)

  -- the constant is the price
  pub pass_is_exact : (held : Costs) → held.constant ≤ n.top → price n held p ≡ (pass n live held).costs.constant
  pass_is_exact held l =
      sym (pass_keeps_prices n good live held p fits)
      ∙ rw (price_capped n (pass n live held).costs p)
      (⊎_elim (λ z. omega (arith, z, low)) (λ z. omega (arith, z, low)) (sum_gone n.parts (cost (pass n live held).costs) _ (all_gone held)))
    where
      low : (pass n live held).costs.constant ≤ n.top
      low = pass_constant n good live held l

-- The steps have no fault exactly where they spell the tree, and a fault stands where they break first. Assumes nothing.
use Rattle.std.proofs.Common.{ℕ, zero, suc, ◌+◌, ◌≡◌, refl, Bool, true, false, cond, not, ◌⊎◌, inl, inr, ⊎_elim, List, [], ◌∷◌, Ok, Err, Some, None, arith, T}
use Rattle.std.proofs.Math.Option.{Option, none, some}
use Rattle.costs.specs.Tests.{Decides}
use Rattle.costs.proofs.TestLaws.{is_true, is_false, by_leb, by_ltb, by_self, by_and, by_map}
use Rattle.shifts.proofs.LegalTests.{by_legal}
use Rattle.records.specs.declared.steps.Step.{Step}
use Rattle.records.specs.declared.steps.Step.TheVariants.{Branch, Shift, Close}
use Rattle.records.specs.Steps.{Spelt, step_words}
use Rattle.records.specs.Trees.{TreeNode}
use Rattle.records.specs.Rules.{Claim, current, May, nodes_after, costs_after, Spells}
use Rattle.records.specs.Records.{Reads}
use Rattle.spelling.specs.Spelling.{Kept, NodeCosts, is_none, may, on_spelt, steps_fault, StepsBreak}

unfoldable pub is_nowhere : Kept → Bool
is_nowhere (Ok x) = true
is_nowhere (Err w) = false

-- a rule at its word, and then the rest
pub by_rule : {A B : Type 0} (t : Bool) (w : ℕ) (later : Kept) → Decides t A → Decides (is_nowhere later) B → Decides (is_nowhere (cond t later (Err w))) (A × B)
unfolding is_nowhere
by_rule true w later p q = record { says = λ t. (p.says tt, q.says t); finds = λ h. q.finds h.1 }
by_rule false w later p q = record { says = λ t. absurd t; finds = λ h. p.finds h.0 }

by_none : {A : Type 0} (o : Option A) → Decides (is_none o) (o ≡ none)
by_none {A = A} o = record { says = out o; finds = λ e. rw e tt }
  where
    out : (o : Option A) → T (is_none o) → o ≡ none
    out none t = refl
    out (some x) t = absurd t

-- the test of a step is what the rules ask of it
pub by_may : (r : Claim) (d : TreeNode) (o : NodeCosts) (s : Step) → Decides (may r d o s) (May r d o s)
unfolding may
by_may r d o (Branch i) =
    by_map (λ h. (h.0, h.1.0, h.1.1)) (λ h. (h.0, (h.1, h.2)))
    (by_and (by_ltb i r.net.vars) (by_and (by_self (not (d.branched i))) (by_none o)))
by_may r d o (Shift x) = by_legal r.net d.live (current r.held o) x
by_may r d o Close = by_leb r.cost (current r.held o).constant

-- the words spell steps that spell these nodes
pub record Spelling (r : Claim) (at : ℕ → Spelt) (left w : ℕ) (ds : List TreeNode) (o : NodeCosts) : Type 0 where
  pub steps : List Step
  pub reads : Reads at left w steps
  pub spells : Spells r ds o steps

pub by_steps : (r : Claim) (at : ℕ → Spelt) (left w : ℕ) (ds : List TreeNode) (o : NodeCosts) → Decides (is_nowhere (steps_fault r at left w ds o)) (Spelling r at left w ds o)
unfolding steps_fault is_nowhere
by_steps r at zero w [] o = record { says = λ t. record { steps = []; reads = tt; spells = tt }; finds = λ h. tt }
by_steps r at zero w (d ∷ ds) o = record { says = λ t. absurd t; finds = λ h. out h.steps h.reads h.spells }
  where
    out : (ss : List Step) → Reads at zero w ss → Spells r (d ∷ ds) o ss → ⊥
    out [] a b = b
    out (s ∷ ss) a b = a
by_steps r at (suc left) w [] o = record { says = λ t. absurd t; finds = λ h. out h.steps h.reads h.spells }
  where
    out : (ss : List Step) → Reads at (suc left) w ss → Spells r [] o ss → ⊥
    out [] a b = a
    out (s ∷ ss) a b = b
by_steps r at (suc left) w (d ∷ ds) o = go (at w) refl (λ s. by_steps r at left (w + step_words) (nodes_after r d ds s) (costs_after r d o s))
  where
    Rest : Step → Type 0
    Rest s = Spelling r at left (w + step_words) (nodes_after r d ds s) (costs_after r d o s)

    rest : Step → Kept
    rest s = steps_fault r at left (w + step_words) (nodes_after r d ds s) (costs_after r d o s)

    out : (ss : List Step) → Reads at (suc left) w ss → Spells r (d ∷ ds) o ss → (s : Step) × (at w ≡ Some s) × May r d o s × Rest s
    out [] a b = absurd a
    out (s ∷ ss) a b = (s, a.0, b.0, record { steps = ss; reads = a.1; spells = b.1 })

    go : (q : Spelt) → at w ≡ q → ((s : Step) → Decides (is_nowhere (rest s)) (Rest s))
        → Decides (is_nowhere (on_spelt q w (λ s. cond (may r d o s) (rest s) (Err w)))) (Spelling r at (suc left) w (d ∷ ds) o)
    go None e f = record { says = λ t. absurd t; finds = λ h. let y = out h.steps h.reads h.spells in absurd (let z : ◌≡◌ {A = ℕ} 0 1 = cc y.1 in omega arith) }
    go (Some s) e f =
        by_map (λ h. record { steps = s ∷ h.1.steps; reads = (e, h.1.reads); spells = (h.0, h.1.spells) })
        (λ h. let y = out h.steps h.reads h.spells in let q : y.0 ≡ s = cc y.1 in (rw q at y.2, rw q at y.3))
        (by_rule (may r d o s) w (rest s) (by_may r d o s) (f s))

pub same_place : {w j : ℕ} → ◌≡◌ {A = Kept} (Err w) (Err j) → w ≡ j
same_place e = cc

pub steps_place : (r : Claim) (at : ℕ → Spelt) (left w : ℕ) (ds : List TreeNode) (o : NodeCosts) (j : ℕ) → steps_fault r at left w ds o ≡ Err j → StepsBreak r at left w ds o j
unfolding steps_fault
steps_place r at zero w [] o j e = absurd (let z : ◌≡◌ {A = ℕ} 0 1 = cc in omega arith)
steps_place r at zero w (d ∷ ds) o j e = same_place e
steps_place r at (suc left) w [] o j e = same_place e
steps_place r at (suc left) w (d ∷ ds) o j e = go (at w) refl e (λ s. steps_place r at left (w + step_words) (nodes_after r d ds s) (costs_after r d o s) j)
  where
    rest : Step → Kept
    rest s = steps_fault r at left (w + step_words) (nodes_after r d ds s) (costs_after r d o s)

    Later : Step → Type 0
    Later s = StepsBreak r at left (w + step_words) (nodes_after r d ds s) (costs_after r d o s) j

    go : (q : Spelt) → at w ≡ q → on_spelt q w (λ s. cond (may r d o s) (rest s) (Err w)) ≡ Err j → ((s : Step) → rest s ≡ Err j → Later s)
        → (((s : Step) → at w ≡ Some s → May r d o s → ⊥) × (w ≡ j)) ⊎ ((s : Step) × (at w ≡ Some s) × May r d o s × Later s)
    go None q e f = inl ((λ s p m. let z : ◌≡◌ {A = ℕ} 0 1 = cc in omega arith), same_place e)
    go (Some s) q e f = one (may r d o s) (by_may r d o s) e
      where
        one : (t : Bool) → Decides t (May r d o s) → cond t (rest s) (Err w) ≡ Err j
            → (((x : Step) → at w ≡ Some x → May r d o x → ⊥) × (w ≡ j)) ⊎ ((x : Step) × (at w ≡ Some x) × May r d o x × Later x)
        one true m e = inr (s, q, m.says tt, f s e)
        one false m e = inl ((λ x p k. let same : x ≡ s = cc in m.finds (rw same at k)), same_place e)

pub broken_at : {w j : ℕ} → w ≡ j → ◌≡◌ {A = Kept} (Err w) (Err j)
broken_at e = rw e

pub place_steps : (r : Claim) (at : ℕ → Spelt) (left w : ℕ) (ds : List TreeNode) (o : NodeCosts) (j : ℕ) → StepsBreak r at left w ds o j → steps_fault r at left w ds o ≡ Err j
unfolding steps_fault
place_steps r at zero w [] o j h = absurd h
place_steps r at zero w (d ∷ ds) o j h = broken_at h
place_steps r at (suc left) w [] o j h = broken_at h
place_steps r at (suc left) w (d ∷ ds) o j h =
    ⊎_elim (λ x. none (at w) refl x.0 x.1)
    (λ x. let later = place_steps r at left (w + step_words) (nodes_after r d ds x.0) (costs_after r d o x.0) j x.3 in
    rw (x.1, is_true (may r d o x.0) ((by_may r d o x.0).finds x.2)) later) h
  where
    none : (q : Spelt) → at w ≡ q → ((s : Step) → at w ≡ Some s → May r d o s → ⊥) → w ≡ j
        → on_spelt q w (λ s. cond (may r d o s) (steps_fault r at left (w + step_words) (nodes_after r d ds s) (costs_after r d o s)) (Err w)) ≡ Err j
    none None q n e = broken_at e
    none (Some s) q n e = rw (is_false (may r d o s) (λ t. n s q ((by_may r d o s).says t))) (broken_at e)

-- A record that keeps the rules makes a true claim, whoever wrote it. What a step does is shown for each kind, the rest once for all kinds. Assumes nothing.
use Rattle.std.proofs.Common.{ℕ, ◌≤◌, ◌≡◌, refl, ◌∙◌, ◌⊎◌, inl, inr, ⊎_elim, List, [], ◌∷◌, arith}
use Rattle.std.proofs.Math.Option.{Option, none}
use Rattle.costs.specs.Net.{Net, Costs, Sound, IsPlan, price}
use Rattle.costs.specs.Cheapest.{IsCheapest, NonePayable}
use Rattle.costs.proofs.NetLaws.{price_capped}
use Rattle.shifts.specs.Nodes.{Fits}
use Rattle.shifts.proofs.ShiftsKeepPrices.{shift_keeps_price}
use Rattle.records.specs.declared.steps.Step.{Step}
use Rattle.records.specs.declared.steps.Step.TheVariants.{Branch, Shift, Close}
use Rattle.records.specs.Trees.{TreeNode, root, children}
use Rattle.records.specs.Rules.{Claim, current, May, nodes_after, costs_after, Spells, Keeps}
use Rattle.records.specs.Records.{told, claims, SaysCheapest, SaysNone, KeepsRules}
use Rattle.records.proofs.TreeLaws.{Each, root_fits, child_fits, each_child}

module _ (r : Claim) (good : Sound r.net) (within : r.cost ≤ r.net.top) where
  -- every plan that fits d costs what is claimed, at least
  pub record Bounded (d : TreeNode) : Type 0 where
    pub holds : (p : ℕ → ℕ) → Fits r.net d.live p → r.cost ≤ price r.net r.held p

  -- the steps so far at the first of the nodes left every price alone
  abbrev Begun : List TreeNode → Option Costs → Type 0
  Begun [] o = Unit {0}
  Begun (d ∷ ds) o = (p : ℕ → ℕ) → Fits r.net d.live p → price r.net (current r.held o) p ≡ price r.net r.held p

  begun_none : (ds : List TreeNode) → Begun ds none
  begun_none [] = tt
  begun_none (d ∷ ds) = λ p f. refl

  -- what one step leaves begun
  step_begun : (d : TreeNode) (ds : List TreeNode) (o : Option Costs) (s : Step) → May r d o s → Begun (d ∷ ds) o → Begun (nodes_after r d ds s) (costs_after r d o s)
  step_begun d ds o (Branch i) m b = begun_none (children d i (r.net.size i) ds)
  step_begun d ds o (Shift x) m b = λ p f. shift_keeps_price r.net good d.live p f (current r.held o) x m ∙ b p f
  step_begun d ds o Close m b = begun_none ds

  -- and that it bounds its node, where the nodes that it leaves are bounded
  step_bounds : (d : TreeNode) (ds : List TreeNode) (o : Option Costs) (s : Step) → May r d o s → Begun (d ∷ ds) o → Each Bounded (nodes_after r d ds s) → Each Bounded (d ∷ ds)
  step_bounds d ds o (Branch i) m b e =
      let h = each_child Bounded d i (r.net.size i) ds e in
      (record { holds = λ p f. (h.0 (p i) (f.plan.range i m.0) (f.lives i m.0)).holds p (child_fits r.net d i (p i) p refl f) }, h.1)
  step_bounds d ds o (Shift x) m b e = e
  step_bounds d ds o Close m b e = (
    record { holds = λ p f. omega (arith, b p f, price_capped r.net (current r.held o) p) },
    e,
  )

  spelt_bounds : (ss : List Step) (ds : List TreeNode) (o : Option Costs) → Spells r ds o ss → Begun ds o → Each Bounded ds
  spelt_bounds [] [] o s b = tt
  spelt_bounds [] (d ∷ ds) o s b = absurd s
  spelt_bounds (x ∷ ss) [] o s b = absurd s
  spelt_bounds (x ∷ ss) (d ∷ ds) o s b =
      step_bounds d ds o x s.0 b (spelt_bounds ss (nodes_after r d ds x) (costs_after r d o x) s.1 (step_begun d ds o x s.0 b))

  -- no plan costs less than is claimed
  pub kept_bounds : (ss : List Step) → Keeps r ss → (p : ℕ → ℕ) → IsPlan r.net p → r.cost ≤ price r.net r.held p
  kept_bounds ss s p h = (spelt_bounds ss (root r.net ∷ []) none s (λ q f. refl)).0.holds p (root_fits r.net p h)

-- demand 3: kept rules make the claim true
pub kept_true : (n : Net) → Sound n → (held : Costs) (word : ℕ → ℕ) (many : ℕ) → KeepsRules n held word many
    → ((word 2 ≡ 0) × IsCheapest n held (told word) (word 3)) ⊎ ((word 2 ≡ 1) × NonePayable n held)
kept_true n good held word many h = ⊎_elim (λ k. inl (k.verdict, cheapest k)) (λ k. inr (k.verdict, nothing k)) h.claim
  where
    cheapest : SaysCheapest n held word many → IsCheapest n held (told word) (word 3)
    cheapest k = record {
      plan = k.plan;
      below = k.cost;
      priced = k.priced;
      least = kept_bounds (claims n held word) good (omega (arith, k.cost)) k.steps.steps k.steps.keeps;
    }

    nothing : SaysNone n held word many → NonePayable n held
    nothing k q p = omega (arith, k.cost, kept_bounds (claims n held word) good (omega (arith, k.cost)) k.steps.steps k.steps.keeps q p, price_capped n held q)

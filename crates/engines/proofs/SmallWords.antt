-- The words of a record that keeps the rules fit, where the limits of its network do. Assumes nothing.
use Rattle.std.proofs.Common.{ℕ, ◌+◌, ◌*◌, ◌≤◌, ◌<◌, Bool, true, false, cond, ⊎_elim, List, [], ◌∷◌, arith, ltb, length, length-append}
use Rattle.std.proofs.Math.Option.{Option, none}
use Rattle.costs.specs.Net.{Net, Costs, All}
use Rattle.costs.specs.Cheapest.{RightAnswer, Cheapest, NoneBelow}
use Rattle.costs.proofs.NetLaws.{All-append, All-by}
use Rattle.shifts.specs.declared.moves.Move.{Move}
use Rattle.shifts.specs.declared.moves.Move.TheVariants.{Project, Extend, Raise}
use Rattle.shifts.specs.Moves.{Joins, Legal}
use Rattle.passes.specs.Passing.{Within}
use Rattle.records.specs.declared.steps.Step.{Step}
use Rattle.records.specs.declared.steps.Step.TheVariants.{Branch, Shift, Close}
use Rattle.records.specs.Trees.{TreeNode, root}
use Rattle.records.specs.Rules.{Claim, claim_of, May, nodes_after, costs_after, Spells, Keeps}
use Rattle.records.specs.Steps.{words_of, step_words, spell}
use Rattle.records.specs.Records.{header_words, record_words}
use Rattle.records.proofs.StepLaws.{spell_many}

module _ (N S F A W : ℕ) (r : Claim) (lim : Within N S F A r.net) (n-fits : N ≤ W) (s-fits : S ≤ W) (f-fits : F ≤ W) (k-fits : r.net.top < W) (some : 7 < W) where
  five : (a b c d e : ℕ) → a < W → b < W → c < W → d < W → e < W → All (λ w. w < W) (a ∷ b ∷ c ∷ d ∷ e ∷ [])
  five a b c d e v w x y z = (v, (w, (x, (y, (z, tt)))))

  -- every word of a step that the rules allow fits
  among_small : (d : TreeNode) (k f i a m : ℕ) → k ≤ 7 → Joins r.net d.live f i a → m ≤ r.net.top → All (λ w. w < W) (k ∷ f ∷ i ∷ a ∷ m ∷ [])
  among_small d k f i a m l h h' = five k f i a m (omega arith) (omega (arith, h.function, lim.functions)) (omega (arith, h.variable, lim.vars)) (omega (arith, h.value, lim.sizes i h.variable)) (omega arith)

  shift_small : (d : TreeNode) (c : Costs) (x : Move) → Legal r.net d.live c x → All (λ w. w < W) (words_of (Shift x))
  unfolding Legal
  shift_small d c (Project f i a m) h = among_small d 2 f i a m (omega arith) h.1 h.0.most
  shift_small d c (Extend f i a m) h = among_small d 3 f i a m (omega arith) h.1 h.0.most
  shift_small d c (Raise i m) h = five 4 0 i 0 m (omega arith) (omega arith) (omega (arith, h.1, lim.vars)) (omega arith) (omega (arith, h.0.most))

  step_small : (d : TreeNode) (o : Option Costs) (s : Step) → May r d o s → All (λ w. w < W) (words_of s)
  step_small d o (Branch i) h = five 1 0 i 0 0 (omega arith) (omega arith) (omega (arith, h.0, lim.vars)) (omega arith) (omega arith)
  step_small d o (Shift x) h = shift_small d _ x h
  step_small d o Close h = five 5 0 0 0 0 (omega arith) (omega arith) (omega arith) (omega arith) (omega arith)

  spells_small : (ss : List Step) (ds : List TreeNode) (o : Option Costs) → Spells r ds o ss → All (λ w. w < W) (spell ss)
  spells_small [] ds o h = tt
  spells_small (s ∷ ss) [] o h = absurd h
  spells_small (s ∷ ss) (d ∷ ds) o h = All-append (λ w. w < W) (words_of s) (spell ss) (step_small d o s h.0) (spells_small ss (nodes_after r d ds s) (costs_after r d o s) h.1)

-- every word of the record of a right answer fits, if the count of its steps does
module _ (N S F A W : ℕ) (n : Net) (held : Costs) (lim : Within N S F A n) (n-fits : N ≤ W) (s-fits : S ≤ W) (f-fits : F ≤ W) (k-fits : n.top < W)
    (plan : List ℕ) (cost : ℕ) (steps : List Step) (answer : RightAnswer n held plan cost) (keeps : Keeps (claim_of n held cost) steps) (room : header_words + N < W) (many : length steps < W) where
  values : (All (λ w. w < W) plan) × (length plan ≤ N) × (cost ≤ n.top)
  values = ⊎_elim
      (λ (h : NoneBelow n held plan cost). (rw h.plan tt, rw h.plan (omega arith), omega (arith, h.best_is)))
      (λ (h : Cheapest n held plan cost). (
        All-by (λ w. w < W) plan (λ j l. omega (arith, h.whole, h.cheapest.plan.range j (omega (arith, h.whole)), lim.sizes j (omega (arith, h.whole)))),
        omega (arith, h.whole, lim.vars),
        omega (arith, h.cheapest.below),
      ))
      answer

  -- how many there are
  pub words_few : length (record_words n cost plan steps) ≤ header_words + N + step_words * length steps
  words_few = omega (arith, values.1, length-append plan (spell steps), spell_many steps)

  verdict : (t : Bool) → cond t 0 1 < W
  verdict true = omega arith
  verdict false = omega arith

  pub words_small : All (λ w. w < W) (record_words n cost plan steps)
  words_small = (
    omega arith,
    (
      omega (arith, lim.vars),
      (
        verdict (ltb cost n.top),
        (
          omega (arith, values.2),
          (
            omega arith,
            (
              omega (arith, values.1),
              (
                omega (arith, values.1),
                (
                  many,
                  All-append (λ w. w < W) plan (spell steps) values.0 (spells_small N S F A W (claim_of n held cost) lim n-fits s-fits f-fits k-fits (omega arith) steps (root n ∷ []) none keeps),
                ),
              ),
            ),
          ),
        ),
      ),
    ),
  )

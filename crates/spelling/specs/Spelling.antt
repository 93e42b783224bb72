-- Whether the steps of a record spell its tree: "steps by first word; an unclosed tree gives the count of words".
use Rattle.std.specs.Prelude.{ℕ, zero, suc, ◌+◌, ◌≡◌, Bool, true, false, cond, not, ◌&&◌, ◌⊎◌, List, [], ◌∷◌, leb, ltb, Result, Ok, Err, Some, None}
use Rattle.std.proofs.Math.Option.{Option, none, some}
use Rattle.costs.specs.Net.{Costs}
use Rattle.shifts.specs.Moves.{is_legal}
use Rattle.records.specs.declared.steps.Step.{Step}
use Rattle.records.specs.declared.steps.Step.TheVariants.{Branch, Shift, Close}
use Rattle.records.specs.Steps.{Spelt, step_words}
use Rattle.records.specs.Trees.{TreeNode}
use Rattle.records.specs.Rules.{Claim, current, May, nodes_after, costs_after}

-- whether the rules are kept: Err w where word w breaks the first that is broken
abbrev pub Kept : Type 0
Kept = Result (Unit {0}) ℕ

abbrev pub no_fault : Kept
no_fault = Ok tt

-- the costs that shifts left at a node, none where there was no shift
abbrev pub NodeCosts : Type 0
NodeCosts = Option Costs

abbrev pub is_none : {A : Type 0} → Option A → Bool
is_none none = true
is_none (some x) = false

-- what the rules ask of a step, as a test
unfoldable pub may : Claim → TreeNode → NodeCosts → Step → Bool
may r d o (Branch i) = ltb i r.net.vars && (not (d.branched i) && is_none o)
may r d o (Shift x) = is_legal r.net d.live (current r.held o) x
may r d o Close = leb r.cost (current r.held o).constant

abbrev pub on_spelt : Spelt → ℕ → (Step → Kept) → Kept
on_spelt None w go = Err w
on_spelt (Some s) w go = go s

-- the first word at which the steps fail: `left` steps from word w on, which are to spell the nodes ds, the first at the costs o
unfoldable pub steps_fault : Claim → (ℕ → Spelt) → ℕ → ℕ → List TreeNode → NodeCosts → Kept
steps_fault r at zero w [] o = no_fault
steps_fault r at zero w (d ∷ ds) o = Err w
steps_fault r at (suc left) w [] o = Err w
steps_fault r at (suc left) w (d ∷ ds) o =
    on_spelt (at w) w (λ s. let later = steps_fault r at left (w + step_words) (nodes_after r d ds s) (costs_after r d o s) in cond (may r d o s) later (Err w))

-- the steps fail at word j: no step that the rules allow stands there, though each before it is allowed; or a step stands there after the tree; or the
-- words end there before the tree does
abbrev pub StepsBreak : Claim → (ℕ → Spelt) → ℕ → ℕ → List TreeNode → NodeCosts → ℕ → Type 0
StepsBreak r at zero w [] o j = ⊥
StepsBreak r at zero w (d ∷ ds) o j = w ≡ j
StepsBreak r at (suc left) w [] o j = w ≡ j
StepsBreak r at (suc left) w (d ∷ ds) o j =
    (((s : Step) → at w ≡ Some s → May r d o s → ⊥) × (w ≡ j))
    ⊎ ((s : Step) × (at w ≡ Some s) × May r d o s × StepsBreak r at left (w + step_words) (nodes_after r d ds s) (costs_after r d o s) j)

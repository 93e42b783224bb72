-- Which costs are read: arity 0, after the mark, and listed. Assumes nothing.
use Rattle.std.specs.Prelude.{Option, Some, None}
use Rattle.std.proofs.Common.{ℕ, ◌≤◌, ◌≡◌, refl, List, [], ◌∷◌, length, arith}
use Rattle.tokens.specs.Tokens.{Text}
use Rattle.tokens.specs.Steps.{and_then}
use Rattle.tokens.specs.Words.{follows}
use Rattle.tokens.specs.Ties.Outcomes.{follows_is}
use Rattle.stretches.specs.Sizes.{product}
use Rattle.listed_costs.specs.Listed.{listed}
use Rattle.function_costs.specs.FunctionCosts.{mark, marked, costs}

pub costs_none : (top : ℕ) (ds : List ℕ) (text : Text) (at : ℕ) → length ds ≡ 0 → costs top ds text at ≡ listed top ds 0 text at
unfolding costs
costs_none top [] text at h = refl
costs_none top (d ∷ ds) text at h = absurd (omega (arith, h))

module _ (top : ℕ) (text : Text) (at : ℕ) (r : Option ℕ) (e : follows_is at r ≡ follows mark text at) where
  pub costs-marked : (ds : List ℕ) → 1 ≤ length ds → (next : ℕ) → r ≡ Some next → costs top ds text at ≡ marked top ds text next
  unfolding costs and_then
  costs-marked [] h next f = absurd (omega arith)
  costs-marked (d ∷ ds) h next f = rw (← e, f)

  pub costs-listed : (ds : List ℕ) → 1 ≤ length ds → r ≡ None → costs top ds text at ≡ listed top ds (product ds) text at
  unfolding costs and_then
  costs-listed [] h f = absurd (omega arith)
  costs-listed (d ∷ ds) h f = rw (← e, f)

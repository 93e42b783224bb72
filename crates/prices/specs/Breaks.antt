-- Where a plan broke: the part of its price at which the running sum reaches the bound.
use Rattle.std.specs.Prelude.{ℕ, zero, suc, ◌+◌, ◌-◌, ◌≤◌, ◌<◌, ◌≡◌, cond, leb, ltb}
use Rattle.costs.specs.Range.{first_to}
use Rattle.costs.specs.Net.{Net, Costs, running_sum, price}
use Rattle.prices.specs.declared.breaks.Break.{Break}
use Rattle.prices.specs.declared.breaks.Break.TheVariants.{Nowhere, Constant, Unary, Function}

-- the part whose cost comes in when s others have come in: "the constant, the unary costs by variable, then the functions by number"
abbrev pub part_after : ℕ → ℕ → Break
part_after vars zero = Constant
part_after vars (suc s) = cond (ltb s vars) (Unary s) (Function (s - vars))

-- "the first part at which the running ⊕-sum reaches k", of the constant and the first s parts; where it stays below, `Nowhere`
unfoldable pub broke_by : Net → Costs → (ℕ → ℕ) → ℕ → Break
broke_by n c p s = let first = first_to (suc s) (λ r. leb n.top (running_sum n c p r)) in cond (leb first s) (part_after n.vars first) Nowhere

-- and of all parts, whose running sum is the price
abbrev pub broke_at : Net → Costs → (ℕ → ℕ) → Break
broke_at n c p = broke_by n c p n.parts

-- the running sum reaches k with the cost of the part that comes after s others: it is k there, and each before it is below
pub record Reaches (n : Net) (c : Costs) (p : ℕ → ℕ) (s : ℕ) : Type 0 where
  pub within : s ≤ n.parts
  pub reached : running_sum n c p s ≡ n.top
  pub below : (r : ℕ) → r < s → running_sum n c p r < n.top

-- what it is for a plan to break there
abbrev pub Breaks : Net → Costs → (ℕ → ℕ) → Break → Type 0
Breaks n c p Nowhere = price n c p < n.top
Breaks n c p Constant = Reaches n c p 0
Breaks n c p (Unary v) = (v < n.vars) × Reaches n c p (suc v)
Breaks n c p (Function f) = Reaches n c p (suc (n.vars + f))

-- Ties: the pass's steps on a lent table.
use Rattle.std.specs.Prelude.{ℕ, ◌≡◌, List, Bool}
use Rattle.costs.specs.Net.{costs_of, Net}
use Rattle.passes.specs.Passing.{Work, at_scope}

-- the step carries work whose costs are a constant and a table t to work whose costs are constant' and t', whatever was shifted before
abbrev pub Carries : (Work → Work) → ℕ → List ℕ → ℕ → List ℕ → Type 0
Carries step constant t constant' t' = (w : Work) → w.costs ≡ costs_of constant t → (step w).costs ≡ costs_of constant' t'

-- the same of a step that leaves the constant alone
abbrev pub Turns : (Work → Work) → List ℕ → List ℕ → Type 0
Turns step t t' = (constant : ℕ) → Carries step constant t constant t'

-- part of a scope is done
abbrev pub Midway : Net → (ℕ → ℕ → Bool) → ℕ → List ℕ → List ℕ → List ℕ → List ℕ → Type 0
Midway n live f left all t u = (constant : ℕ) (w : Work) → w.costs ≡ costs_of constant t → (v : Work) × (v.costs ≡ costs_of constant u) × (at_scope n live f left v ≡ at_scope n live f all w)

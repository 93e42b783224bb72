-- A function's costs: listed, or a soft sum.
use Rattle.std.specs.Prelude.{ℕ, cond, List, [], ◌∷◌}
use Rattle.tokens.specs.Steps.{Reads, ◌>>=◌, ◌>>◌, pure}
use Rattle.tokens.specs.Words.{word, follows}
use Rattle.stretches.specs.Sizes.{product}
use Rattle.listed_costs.specs.Listed.{listed}
use Rattle.soft_sums.specs.Soft.{soft_sum, soft_costs}

-- -1
abbrev pub mark : List ℕ
mark = 45 ∷ 49 ∷ []

-- the words that the mark may lead to: wsum
abbrev pub keywords : List (List ℕ)
keywords = (119 ∷ 115 ∷ 117 ∷ 109 ∷ []) ∷ []

unfoldable pub marked : ℕ → List ℕ → Reads (List ℕ)
marked top ds = do
  word keywords
  soft ← soft_sum
  pure (soft_costs top ds soft)

-- a function's costs, tuple by tuple. "In place of default and count, arity 1 to 3 may have `-1 ..`"; "The number of tuples is at most the
-- product of the domain sizes; for arity 0 it is 0"
unfoldable pub costs : ℕ → List ℕ → Reads (List ℕ)
costs top [] = listed top [] 0
costs top (d ∷ ds) = do
  is-marked ← follows mark
  cond is-marked (marked top (d ∷ ds)) (listed top (d ∷ ds) (product (d ∷ ds)))

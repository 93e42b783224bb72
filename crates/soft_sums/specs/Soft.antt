-- The soft sum: "`-1 wsum M base C K`: M is `hard`, `lin` or `quad`; base is at most 10^12; C is `==`, `!=`, `<`, `<=`, `>` or `>=`; K is at
-- most 1,000".
use Rattle.std.specs.Prelude.{ℕ, zero, suc, ◌+◌, ◌-◌, ◌*◌, ◌/◌, ◌%◌, min, cond, List, [], ◌∷◌, eqb}
use Rattle.costs.specs.Range.{list_to}
use Rattle.tokens.specs.Steps.{Reads, ◌>>=◌, pure}
use Rattle.tokens.specs.Numbers.{number_in}
use Rattle.tokens.specs.Words.{word}
use Rattle.soft_sums.specs.SoftLimits.{base_most, limit_most}
use Rattle.stretches.specs.Sizes.{product}
use Rattle.soft_sums.specs.declared.Mode.{Mode}
use Rattle.soft_sums.specs.declared.Mode.TheVariants.{Hard, Lin, Quad}
use Rattle.soft_sums.specs.declared.Comparator.{Comparator}
use Rattle.soft_sums.specs.declared.Comparator.TheVariants.{Equal, Unequal, Below, AtMost, Above, AtLeast}
use Rattle.soft_sums.specs.declared.Soft.{Soft}

-- hard lin quad
abbrev pub modes : List (List ℕ)
modes = (104 ∷ 97 ∷ 114 ∷ 100 ∷ []) ∷ (108 ∷ 105 ∷ 110 ∷ []) ∷ (113 ∷ 117 ∷ 97 ∷ 100 ∷ []) ∷ []

-- M, by its place among them
unfoldable pub mode_at : ℕ → Mode
mode_at zero = Hard
mode_at (suc zero) = Lin
mode_at (suc (suc place)) = Quad

-- and its place by M
abbrev pub mode_place : Mode → ℕ
mode_place Hard = 0
mode_place Lin = 1
mode_place Quad = 2

-- == != < <= > >=
abbrev pub comparators : List (List ℕ)
comparators = (61 ∷ 61 ∷ []) ∷ (33 ∷ 61 ∷ []) ∷ (60 ∷ []) ∷ (60 ∷ 61 ∷ []) ∷ (62 ∷ []) ∷ (62 ∷ 61 ∷ []) ∷ []

-- C, by its place among them
unfoldable pub comparator_at : ℕ → Comparator
comparator_at zero = Equal
comparator_at (suc zero) = Unequal
comparator_at (suc (suc zero)) = Below
comparator_at (suc (suc (suc zero))) = AtMost
comparator_at (suc (suc (suc (suc zero)))) = Above
comparator_at (suc (suc (suc (suc (suc place))))) = AtLeast

-- and its place by C
abbrev pub comparator_place : Comparator → ℕ
comparator_place Equal = 0
comparator_place Unequal = 1
comparator_place Below = 2
comparator_place AtMost = 3
comparator_place Above = 4
comparator_place AtLeast = 5

unfoldable pub soft_sum : Reads Soft
soft_sum = do
  mode ← word modes
  base ← number_in 0 base_most
  comparator ← word comparators
  limit ← number_in 0 limit_most
  pure (record { mode = mode_at mode; base = base.value; comparator = comparator_at comparator; limit = limit.value })

-- "The gap for `<` becomes max(0, Sum - K + 1)": request M-103, over document 01's "`<` max(0, Sum - K - 1)"
unfoldable pub gap_below : ℕ → ℕ → ℕ
gap_below limit sum = sum + 1 - limit

-- "Gap (document 000): `==` |K - Sum|; `<=` max(0, Sum - K); `<` ..; `!=` 1 if equal, else 0 (document 000 prints the reverse);
-- `>` max(0, K - Sum + 1); `>=` max(0, K - Sum)"
unfoldable pub gap : Comparator → ℕ → ℕ → ℕ
gap Equal limit sum = (limit - sum) + (sum - limit)
gap Unequal limit sum = cond (eqb sum limit) 1 0
gap Below limit sum = gap_below limit sum
gap AtMost limit sum = sum - limit
gap Above limit sum = limit + 1 - sum
gap AtLeast limit sum = limit - sum

-- "`lin` costs base × gap, `quad` base × gap², `hard` k if the gap is above 0 (base is read and unused); each is held at most k"
unfoldable pub gap_cost : ℕ → Mode → ℕ → ℕ → ℕ
gap_cost top Hard base g = cond (eqb g 0) 0 top
gap_cost top Lin base g = min top (base * g)
gap_cost top Quad base g = min top (base * (g * g))

-- the values of an entry, "the last scope variable changing fastest"
unfoldable pub values_at : List ℕ → ℕ → List ℕ
values_at [] entry = []
values_at (d ∷ ds) entry = entry / product ds % d ∷ values_at ds entry

unfoldable pub total : List ℕ → ℕ
total [] = 0
total (a ∷ rest) = a + total rest

-- "Sum being the total of the values"
unfoldable pub soft_cost : ℕ → Soft → List ℕ → ℕ → ℕ
soft_cost top soft ds entry = gap_cost top soft.mode soft.base (gap soft.comparator soft.limit (total (values_at ds entry)))

unfoldable pub soft_costs : ℕ → List ℕ → Soft → List ℕ
soft_costs top ds soft = list_to (product ds) (soft_cost top soft ds)

-- Listed costs: "then the default cost and the number of listed tuples, then each tuple: its values in scope order and its cost. An unlisted
-- tuple has the default."
use Rattle.std.specs.Prelude.{ℕ, zero, suc, ◌+◌, ◌*◌, min, cond, List, [], ◌∷◌, map, ltb, eqb, length, get_or, set, replicate}
use Rattle.answers.specs.declared.Refusal.TheVariants.{Unfitting, ListedTwice}
use Rattle.tokens.specs.Steps.{Reads, ◌>>=◌, ◌>>◌, pure, demand, at_last}
use Rattle.tokens.specs.Numbers.{any_number, number_in}
use Rattle.tokens.specs.declared.numbers.Seen.{Seen}
use Rattle.stretches.specs.Sizes.{product}

-- an entry that no tuple has listed yet: no cost is so large
abbrev pub unlisted : ℕ
unlisted = 0xffff_ffff_ffff_ffff

-- one value, below d, with so many after it; `before` is the entry of the values before it: "value not below its size" (4);
-- "tuple listed twice in one function", "offset of its last value" (5)
unfoldable pub value : List ℕ → ℕ → ℕ → ℕ → Reads Seen
value cells d left before = do
  a ← any_number
  demand (ltb a.value d) (Unfitting a.place)
  demand (at_last left (eqb (get_or cells (before * d + a.value) 0) unlisted)) (ListedTwice a.place)
  pure a

-- the values of one tuple, for variables of these sizes, and the entry that they lead to, "the last scope variable changing fastest"
unfoldable pub tuple : List ℕ → List ℕ → ℕ → Reads ℕ
tuple cells [] entry = pure entry
tuple cells (d ∷ ds) entry = do
  a ← value cells d (length ds) entry
  tuple cells ds (entry * d + a.value)

-- so many tuples, each with its cost: "A cost above k is held as k"
unfoldable pub listing : ℕ → List ℕ → ℕ → List ℕ → Reads (List ℕ)
listing top ds zero cells = pure cells
listing top ds (suc left) cells = do
  entry ← tuple cells ds 0
  cost ← any_number
  listing top ds left (set cells entry (min top cost.value))

unfoldable pub settled : ℕ → ℕ → ℕ
settled default cost = cond (eqb cost unlisted) default cost

-- the default, then at most so many tuples
unfoldable pub listed : ℕ → List ℕ → ℕ → Reads (List ℕ)
listed top ds most = do
  default ← any_number
  many ← number_in 0 most
  cells ← listing top ds many.value (replicate (product ds) unlisted)
  pure (map (settled (min top default.value)) cells)

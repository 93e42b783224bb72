-- Ties: boxes of a table: some values of each of several dimensions, the last changing fastest. The live tuples of a part are a box, at any arity.
use Rattle.std.specs.Prelude.{ℕ, ◌+◌, ◌*◌, ◌/◌, ◌%◌, ◌≤◌, Bool, true, cond, ◌&&◌, List, [], ◌∷◌, leb, ltb, get_or}
use Rattle.costs.specs.Cost.{plus, minus}
use Rattle.costs.specs.Limits.{entries_most}
use Rattle.boxes.specs.declared.Span.{Span}
use Rattle.boxes.specs.declared.Block.{Block}
use Rattle.boxes.specs.declared.Change.{Change}
use Rattle.boxes.specs.Loops.{least_to}
use Rattle.boxes.specs.Places.{in_stretch, on}

-- of `size` values those that are live and below `end`: so a loop that has come to v has done the same dimension with the end v
pub record Dim : Type 0 where
  pub size : ℕ
  pub live : ℕ → Bool
  pub end : ℕ

unfoldable pub covers : Dim → ℕ → Bool
covers x b = x.live b && ltb b x.end

-- the values from `from` on, below `end`
abbrev pub range : ℕ → ℕ → ℕ → Dim
range size from end = record { size = size; live = leb from; end = end }

abbrev pub spanned : Span → Dim
spanned x = range x.size x.from x.to

abbrev pub span_to : Span → ℕ → Dim
span_to x v = range x.size x.from v

pub record InSize (x : Span) : Type 0 where
  pub ordered : x.from ≤ x.to
  pub within : x.to ≤ x.size

abbrev pub sides : Block → List Dim
sides b = spanned b.outer ∷ spanned b.middle ∷ spanned b.inner ∷ []

-- a block within a table of n entries
pub record Sits (b : Block) (n : ℕ) : Type 0 where
  pub outer : InSize b.outer
  pub middle : InSize b.middle
  pub inner : InSize b.inner
  pub fits : b.at + b.outer.size * (b.middle.size * b.inner.size) ≤ n
  pub few : b.middle.size * b.inner.size ≤ entries_most

-- how many entries
abbrev pub volume : List Dim → ℕ
volume [] = 1
volume (x ∷ xs) = x.size * volume xs

-- the values of entry e are covered
abbrev pub in_box : List Dim → ℕ → Bool
in_box [] e = true
in_box (x ∷ xs) e = covers x (e / volume xs) && in_box xs (e % volume xs)

-- a table as a function of the place
abbrev pub cells : List ℕ → ℕ → ℕ
cells t j = get_or t j 0

-- the table with the box at `at` changed
unfoldable pub box_on : List Dim → ℕ → (ℕ → ℕ) → (ℕ → ℕ) → ℕ → ℕ
box_on xs at change f = on (in_stretch at (volume xs) (in_box xs)) change f

-- the least of the box at `at`, and k at most
unfoldable pub box_least : List Dim → ℕ → ℕ → (ℕ → ℕ) → ℕ
box_least xs at top f = least_to top (in_box xs) (λ e. f (at + e)) (volume xs)

-- a cost that takes an amount, or gives it
abbrev pub changed : Bool → ℕ → ℕ → ℕ → ℕ
changed takes top m x = cond takes (plus top x m) (minus top x m)

-- as a change says
abbrev pub changes : Change → ℕ → ℕ
changes c = changed c.takes c.top c.amount

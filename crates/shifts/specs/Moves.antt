-- The shifts: what each moves, and when it is legal. "live" is the node. The tuples of a function with value a at variable i are those that are live at
-- the node that fixes i to a besides, and so is the unary cost of a: so PROJECT and EXTEND move between two parts, and RAISE from a part to the constant.
use Rattle.std.specs.Prelude.{ℕ, ◌+◌, ◌≤◌, ◌<◌, Bool, not, ◌&&◌, ◌||◌, List, [], ◌∷◌, T, leb, ltb}
use Rattle.costs.specs.Cost.{plus, minus}
use Rattle.costs.specs.Range.{all_to}
use Rattle.costs.specs.Net.{Net, Costs, tuples, start}
use Rattle.costs.specs.Tests.{between, among}
use Rattle.boxes.specs.Places.{on, moved}
use Rattle.shifts.specs.declared.moves.Move.{Move}
use Rattle.shifts.specs.declared.moves.Move.TheVariants.{Project, Extend, Raise}
use Rattle.shifts.specs.Nodes.{fixing, live_entry, hit}

-- PROJECT: "Each of them is ⊖ amount, the unary cost is ⊕ amount." EXTEND: the unary cost "is ⊖ amount, and each such live tuple ⊕ amount."
-- RAISE: "each is ⊖ amount, the constant ⊕ amount." "Nothing else moves, dead entries included."
unfoldable pub shifted : Net → (ℕ → ℕ → Bool) → Move → Costs → Costs
shifted n live (Project f i a m) c = record { constant = c.constant; at = moved n.top (hit n (fixing live i a) (n.vars + f)) (hit n (fixing live i a) i) m c.at }
shifted n live (Extend f i a m) c = record { constant = c.constant; at = moved n.top (hit n (fixing live i a) i) (hit n (fixing live i a) (n.vars + f)) m c.at }
shifted n live (Raise i m) c = record { constant = plus n.top c.constant m; at = on (hit n live i) (λ x. minus n.top x m) c.at }

-- "Amounts are 1 to k"
pub record IsAmount (n : Net) (m : ℕ) : Type 0 where
  pub some : 1 ≤ m
  pub most : m ≤ n.top

-- "function f to value a of variable i in its scope, a live"
pub record Joins (n : Net) (live : ℕ → ℕ → Bool) (f i a : ℕ) : Type 0 where
  pub function : n.vars + f < n.parts
  pub variable : i < n.vars
  pub scoped : T (among i (n.scope (n.vars + f)))
  pub value : a < n.size i
  pub lives : T (live i a)

-- every live tuple of part s "costs at least the amount"
abbrev pub Gives : Net → (ℕ → ℕ → Bool) → (ℕ → ℕ) → ℕ → ℕ → Type 0
Gives n live t s m = (j : ℕ) → T (hit n live s j) → m ≤ t j

-- "Legal shifts"
unfoldable pub Legal : Net → (ℕ → ℕ → Bool) → Costs → Move → Type 0
Legal n live c (Project f i a m) = IsAmount n m × Joins n live f i a × Gives n (fixing live i a) c.at (n.vars + f) m
Legal n live c (Extend f i a m) = IsAmount n m × Joins n live f i a × Gives n (fixing live i a) c.at i m
Legal n live c (Raise i m) = IsAmount n m × (i < n.vars) × Gives n live c.at i m

-- the same as tests
abbrev pub joins : Net → (ℕ → ℕ → Bool) → ℕ → ℕ → ℕ → Bool
joins n live f i a = ltb (n.vars + f) n.parts && (ltb i n.vars && (among i (n.scope (n.vars + f)) && (ltb a (n.size i) && live i a)))

unfoldable pub gives : Net → (ℕ → ℕ → Bool) → (ℕ → ℕ) → ℕ → ℕ → Bool
gives n live t s m = all_to (tuples n.size (n.scope s)) (λ e. not (live_entry n.size live (n.scope s) e) || leb m (t (start n s + e)))

unfoldable pub is_legal : Net → (ℕ → ℕ → Bool) → Costs → Move → Bool
is_legal n live c (Project f i a m) = between 1 n.top m && (joins n live f i a && gives n (fixing live i a) c.at (n.vars + f) m)
is_legal n live c (Extend f i a m) = between 1 n.top m && (joins n live f i a && gives n (fixing live i a) c.at i m)
is_legal n live c (Raise i m) = between 1 n.top m && (ltb i n.vars && gives n live c.at i m)

-- the costs after each of a list of shifts in turn
abbrev pub ran : Net → (ℕ → ℕ → Bool) → Costs → List Move → Costs
ran n live c [] = c
ran n live c (x ∷ xs) = ran n live (shifted n live x c) xs

-- each is legal when its turn comes
abbrev pub LegalAll : Net → (ℕ → ℕ → Bool) → Costs → List Move → Type 0
LegalAll n live c [] = Unit {0}
LegalAll n live c (x ∷ xs) = Legal n live c x × LegalAll n live (shifted n live x c) xs

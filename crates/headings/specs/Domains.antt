-- The domain sizes: "N domain sizes, 1 to 16; the header's greatest size equals the largest of them, or 0 where N is 0".
use Rattle.std.specs.Prelude.{ℕ, zero, suc, ◌+◌, max, List, leb, eqb, set}
use Rattle.costs.specs.Limits.{size_most, entries_most}
use Rattle.answers.specs.declared.Refusal.TheVariants.{OutOfRange, Unfitting}
use Rattle.tokens.specs.Steps.{Reads, ◌>>=◌, ◌>>◌, pure, demand, at_last}
use Rattle.tokens.specs.Numbers.{number_in}
use Rattle.tokens.specs.declared.numbers.Seen.{Seen}

-- the sizes, and 0 at the places past N; the entries of the unary stretches are their total
pub record Sized : Type 0 where
  pub entries : ℕ
  pub sizes : List ℕ

-- one size, with so many after it: "E is judged at the last size" (3), "the greatest size at the last size token" (4). `largest` and
-- `entries` are of the sizes before it
unfoldable pub size : ℕ → ℕ → ℕ → ℕ → Reads Seen
size greatest left largest entries = do
  d ← number_in 1 size_most
  demand (at_last left (leb (entries + d.value) entries_most)) (OutOfRange d.place)
  demand (at_last left (eqb (max largest d.value) greatest)) (Unfitting d.place)
  pure d

-- so many sizes more, from variable v on
unfoldable pub domains : ℕ → ℕ → ℕ → ℕ → ℕ → List ℕ → Reads Sized
domains greatest zero v largest entries sizes = pure (record { entries = entries; sizes = sizes })
domains greatest (suc left) v largest entries sizes = do
  d ← size greatest left largest entries
  domains greatest left (v + 1) (max largest d.value) (entries + d.value) (set sizes v d.value)

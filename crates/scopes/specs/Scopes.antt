-- A function's scope: "arity 0 to 3, that many different variable numbers (from 0)".
use Rattle.std.specs.Prelude.{ℕ, zero, suc, ◌+◌, ◌&&◌, ◌||◌, not, List, [], ◌∷◌, ◌++◌, map, ltb, leb, length, get_or}
use Rattle.costs.specs.Limits.{entries_most}
use Rattle.costs.specs.Tests.{among}
use Rattle.answers.specs.declared.Refusal.TheVariants.{OutOfRange, Unfitting}
use Rattle.tokens.specs.Steps.{Reads, ◌>>=◌, ◌>>◌, pure, demand, at_last}
use Rattle.tokens.specs.Numbers.{any_number}
use Rattle.tokens.specs.declared.numbers.Seen.{Seen}
use Rattle.stretches.specs.Sizes.{product}

abbrev pub scope_sizes : List ℕ → List ℕ → List ℕ
scope_sizes sizes xs = map (λ x. get_or sizes x 0) xs

-- one variable after those in xs, with so many after it: "variable unknown or twice in a scope" (4). "E is judged .. at each arity 2 or 3
-- function's last scope token, if its variables are known and different" (3)
unfoldable pub variable : ℕ → List ℕ → ℕ → ℕ → List ℕ → Reads Seen
variable vars sizes entries left xs = do
  x ← any_number
  demand (ltb x.value vars && not (among x.value xs)) (Unfitting x.place)
  demand (at_last left (ltb (length xs) 1 || leb (entries + product (scope_sizes sizes (xs ++ x.value ∷ []))) entries_most)) (OutOfRange x.place)
  pure x

-- so many variables more
unfoldable pub scope : ℕ → List ℕ → ℕ → ℕ → List ℕ → Reads (List ℕ)
scope vars sizes entries zero xs = pure xs
scope vars sizes entries (suc left) xs = do
  x ← variable vars sizes entries left xs
  scope vars sizes entries left (xs ++ x.value ∷ [])

-- Networks A, B and C of document 01, "Reckoned by hand", as the struct holds them, for the examples of every room.
use Rattle.std.specs.Prelude.{ℕ, ◌-◌, ◌*◌, ◌≡◌, refl, List, [], ◌∷◌, ◌++◌, length, replicate}
use Rattle.costs.specs.declared.networks.Network.{Network}
use Rattle.costs.specs.Limits.{vars_most, functions_most, row_places}
use Rattle.costs.specs.Net.{entries}
use Rattle.costs.specs.Networks.{stands}

-- zeros after a list, up to a capacity
abbrev pub padded : ℕ → List ℕ → List ℕ
padded n xs = xs ++ replicate (n - length xs) 0

-- a network of these numbers: k, the constant, the sizes, then of the functions their rows and their starts
abbrev pub numbered : ℕ → ℕ → List ℕ → List ℕ → List ℕ → Network
numbered top constant sizes rows starts = record {
  top = top;
  constant = constant;
  vars = length sizes;
  sizes = padded vars_most sizes;
  functions = length starts;
  scopes = padded (functions_most * row_places) rows;
  starts = padded functions_most starts;
}

-- `plan 3 2 4 10 | 2 2 2 | 1 0 0 1 | 1 3 | 2 0 1 0 2 | 0 0 5 | 1 1 5 | 2 1 2 0 1 | 1 0 4 | 0 1 0`
abbrev pub network_a : Network
network_a = numbered 10 1 (2 ∷ 2 ∷ 2 ∷ []) (2 ∷ 0 ∷ 1 ∷ 0 ∷ 2 ∷ 1 ∷ 2 ∷ 0 ∷ []) (6 ∷ 10 ∷ [])

abbrev pub table_a : List ℕ
table_a = 0 ∷ 3 ∷ 0 ∷ 0 ∷ 0 ∷ 0 ∷ 5 ∷ 0 ∷ 0 ∷ 5 ∷ 0 ∷ 0 ∷ 4 ∷ 0 ∷ []

-- `one 1 2 1 9 | 2 | 1 0 4 1 | 1 6`
abbrev pub network_b : Network
network_b = numbered 9 0 (2 ∷ []) [] []

abbrev pub table_b : List ℕ
table_b = 4 ∷ 6 ∷ []

-- `none 1 1 1 5 | 1 | 1 0 5 0`
abbrev pub network_c : Network
network_c = numbered 5 0 (1 ∷ []) [] []

abbrev pub table_c : List ℕ
table_c = 5 ∷ []

-- "E = 14"
entries_a : entries (stands network_a) ≡ 14
entries_a = refl

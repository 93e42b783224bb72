-- Document 01's limits of a network, each once. `src/limits.rt` has the same numbers for the code.
use Rattle.std.specs.Prelude.{ℕ, suc}

-- "N (0 to 64)"
abbrev pub vars_most : ℕ
vars_most = 64

-- "N domain sizes, 1 to 16"
abbrev pub size_most : ℕ
size_most = 16

-- "arity 0 to 3"
abbrev pub arity_most : ℕ
arity_most = 3

-- a function's row: its arity, then its variables
abbrev pub row_places : ℕ
row_places = suc arity_most

-- "number of functions (0 to 256)"
abbrev pub functions_most : ℕ
functions_most = 256

-- "k (1 to 1,000,000,000,000)"
abbrev pub cost_most : ℕ
cost_most = 1_000_000_000_000

-- "E, the entries in all, is at most 4,096"
abbrev pub entries_most : ℕ
entries_most = 4_096

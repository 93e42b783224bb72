-- Document 01's limits of a soft sum, each once. `src/limits.rt` has the same numbers for the code.
use Rattle.std.specs.Prelude.{ℕ}

-- "base is at most 10^12"
abbrev pub base_most : ℕ
base_most = 1_000_000_000_000

-- "K is at most 1,000"
abbrev pub limit_most : ℕ
limit_most = 1_000

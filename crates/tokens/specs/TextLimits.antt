-- The limits of a token in document 01 and request M-101, each once. `src/limits.rt` has the same numbers for the code.
use Rattle.std.specs.Prelude.{ℕ}

-- "A number is 1 to 13 decimal digits"
abbrev pub digits_most : ℕ
digits_most = 13

-- "name (1 to 64 bytes)"
abbrev pub name_most : ℕ
name_most = 64

-- request M-101: "a name with any byte outside 33 to 126"
abbrev pub name_byte_least : ℕ
name_byte_least = 33

abbrev pub name_byte_most : ℕ
name_byte_most = 126

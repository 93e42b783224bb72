-- Document 01's limit of a text. `src/limits.rt` has the same number for the code.
use Rattle.std.specs.Prelude.{ℕ}

-- "text over 65,536 bytes"
abbrev pub text_most : ℕ
text_most = 65_536

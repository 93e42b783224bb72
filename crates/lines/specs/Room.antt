-- Room for what the programs print.
use Rattle.std.specs.Prelude.{ℕ, ◌+◌, ◌*◌}
use Rattle.costs.specs.Limits.{vars_most}
use Rattle.lines.specs.Numerals.{numeral_most}

-- the longest word of a verdict or a refusal is `refused `
abbrev pub word_most : ℕ
word_most = 8

-- a space and a number for each choice
abbrev pub choices_most : ℕ
choices_most = vars_most * (1 + numeral_most)

-- what stands before the choices: a word, a number and a word
abbrev pub head_most : ℕ
head_most = word_most + numeral_most + word_most

-- the code's room for what is printed: these, another word and number, and the line's end
abbrev pub lines_most : ℕ
lines_most = head_most + choices_most + word_most + numeral_most + 1

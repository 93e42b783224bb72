-- The line that is printed of a price answer.
use Rattle.std.specs.Prelude.{ℕ, cond, List, [], ◌∷◌, ◌++◌, eqb}
use Rattle.answers.specs.Answers.{number_of}
use Rattle.prices.specs.declared.breaks.Break.{Break}
use Rattle.prices.specs.declared.breaks.Break.TheVariants.{Nowhere, Constant, Unary, Function}
use Rattle.prices.specs.declared.prices.Priced.{Priced}
use Rattle.lines.specs.Numerals.{numeral}
use Rattle.lines.specs.Lines.{line_end, refusal_line}

-- the bytes of the words, in ASCII: `price `, ` at constant`, ` at unary ` and ` at function `
abbrev pub price_word : List ℕ
price_word = 112 ∷ 114 ∷ 105 ∷ 99 ∷ 101 ∷ 32 ∷ []

abbrev pub constant_word : List ℕ
constant_word = 32 ∷ 97 ∷ 116 ∷ 32 ∷ 99 ∷ 111 ∷ 110 ∷ 115 ∷ 116 ∷ 97 ∷ 110 ∷ 116 ∷ []

abbrev pub unary_word : List ℕ
unary_word = 32 ∷ 97 ∷ 116 ∷ 32 ∷ 117 ∷ 110 ∷ 97 ∷ 114 ∷ 121 ∷ 32 ∷ []

abbrev pub function_word : List ℕ
function_word = 32 ∷ 97 ∷ 116 ∷ 32 ∷ 102 ∷ 117 ∷ 110 ∷ 99 ∷ 116 ∷ 105 ∷ 111 ∷ 110 ∷ 32 ∷ []

-- where it broke; a price below the bound broke nowhere and is told alone
abbrev pub break_words : Break → List ℕ
break_words Nowhere = []
break_words Constant = constant_word
break_words (Unary v) = unary_word ++ numeral v
break_words (Function f) = function_word ++ numeral f

-- `price 10 at function 1`, `price 5`, or the refusal's line
abbrev pub price_line : Priced → List ℕ
price_line priced =
    cond (eqb (number_of priced.answer) 0) (price_word ++ numeral priced.price ++ break_words priced.broke ++ line_end) (refusal_line priced.answer)

-- Lines of words and numbers, as the programs print them.
use Rattle.std.specs.Prelude.{ℕ, zero, suc, List, [], ◌∷◌, ◌++◌, get_or, take}
use Rattle.answers.specs.Answers.{Answer, number_of, place_of}
use Rattle.lines.specs.declared.Lines.{Lines}
use Rattle.lines.specs.Numerals.{numeral}

-- what some lines say
abbrev pub written : Lines → List ℕ
written lines = take lines.len lines.bytes

-- the bytes of the words, in ASCII: `cost `, `none `, `refused `, ` at `, and a line end before `plan` and `nodes `
abbrev pub cost_word : List ℕ
cost_word = 99 ∷ 111 ∷ 115 ∷ 116 ∷ 32 ∷ []

abbrev pub none_word : List ℕ
none_word = 110 ∷ 111 ∷ 110 ∷ 101 ∷ 32 ∷ []

abbrev pub refused_word : List ℕ
refused_word = 114 ∷ 101 ∷ 102 ∷ 117 ∷ 115 ∷ 101 ∷ 100 ∷ 32 ∷ []

abbrev pub at_word : List ℕ
at_word = 32 ∷ 97 ∷ 116 ∷ 32 ∷ []

abbrev pub plan_word : List ℕ
plan_word = 10 ∷ 112 ∷ 108 ∷ 97 ∷ 110 ∷ []

abbrev pub nodes_word : List ℕ
nodes_word = 10 ∷ 110 ∷ 111 ∷ 100 ∷ 101 ∷ 115 ∷ 32 ∷ []

abbrev pub space : List ℕ
space = 32 ∷ []

abbrev pub line_end : List ℕ
line_end = 10 ∷ []

-- "A refusal prints `refused 2 at 0` alone"
abbrev pub refusal_line : Answer → List ℕ
refusal_line answer = refused_word ++ numeral (number_of answer) ++ at_word ++ numeral (place_of answer) ++ line_end

-- the first choices of a plan, a space before each
unfoldable pub choices_to : ℕ → List ℕ → List ℕ
choices_to zero choice = []
choices_to (suc v) choice = choices_to v choice ++ space ++ numeral (get_or choice v 0)

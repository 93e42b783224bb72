-- What the program prints: document 01, "Reckoned by hand".
use Rattle.std.specs.Prelude.{ℕ, min, cond, false, List, ◌++◌, replicate, eqb, ltb}
use Rattle.answers.specs.Answers.{number_of}
use Rattle.costs.specs.Limits.{vars_most, entries_most}
use Rattle.reader.specs.declared.reading.Reading.{Reading}
use Rattle.reader.specs.Reading.{reading, answered, table_after}
use Rattle.engines.specs.declared.results.Searched.{Searched}
use Rattle.search.specs.Doors.{search_leaves}
use Rattle.lines.specs.Numerals.{numeral}
use Rattle.lines.specs.Lines.{cost_word, none_word, plan_word, nodes_word, line_end, refusal_line, choices_to}

-- "`cost 4`, `plan 0`"; "`none 5`", where best equals k; "With N = 0 the plan line is `plan`"
abbrev pub outcome_lines : ℕ → Searched → List ℕ
outcome_lines top found =
    cond (ltb found.cost top)
    (cost_word ++ numeral found.cost ++ plan_word ++ choices_to (min found.plan.len vars_most) found.plan.choice)
    (none_word ++ numeral found.cost)

-- "`nodes 3`"
abbrev pub searched_lines : ℕ → Searched → List ℕ
searched_lines top found =
    cond (eqb (number_of found.answer) 0) (outcome_lines top found ++ nodes_word ++ numeral found.nodes ++ line_end) (refusal_line found.answer)

-- "The program's budget is 1,000,000 nodes and it asks for no record."
abbrev pub program_budget : ℕ
program_budget = 1_000_000

abbrev pub read_lines : Reading → List ℕ → List ℕ
read_lines read held =
    cond (eqb (number_of read.answer) 0)
    (searched_lines read.network.top (search_leaves read.network held entries_most 1 false program_budget).result)
    (refusal_line read.answer)

-- what the program prints for a text
abbrev pub printed : List ℕ → List ℕ
printed text = read_lines (answered (reading text entries_most)) (table_after (reading text entries_most) (replicate entries_most 0))

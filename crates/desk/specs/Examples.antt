-- The records of document 01, "Reckoned by hand", and damaged ones, checked by the definitions.
use Rattle.std.specs.Prelude.{ℕ, ◌≡◌, refl, List, [], ◌∷◌, ◌++◌, map, take, set, Err}
use Rattle.answers.specs.Answers.{Answer, Done}
use Rattle.answers.specs.declared.Refusal.TheVariants.{ShortTable, NotNetwork, BrokenRule}
use Rattle.costs.specs.Cost.{minus}
use Rattle.costs.specs.Net.{price}
use Rattle.costs.specs.PaperNetworks.{network_a, table_a, network_b, table_b, network_c, table_c}
use Rattle.judging.specs.Judging.{judged, is_network, ranges_good, sizes_good, variables_good, row_good, scopes_good, stretches_good, costs_good}
use Rattle.boxes.specs.Places.{in_stretch}
use Rattle.shifts.specs.Nodes.{fixing}
use Rattle.shifts.specs.Moves.{shifted, gives, is_legal}
use Rattle.records.specs.Words.{bytes_of, word_at}
use Rattle.records.specs.Steps.{step_of}
use Rattle.spelling.specs.Spelling.{may, steps_fault}
use Rattle.desk.specs.Checking.{header_rules, plan_rules, record_fault, bytes_fault, checked}

-- "Whole record, 34 words: 1 1 0 4 8 1 9 5; 0; 1 0 0 0 0; 4 0 0 0 4; 5 0 0 0 0; 4 0 0 0 6; 5 0 0 0 0."
abbrev words_b : List ℕ
words_b = 1 ∷ 1 ∷ 0 ∷ 4 ∷ 8 ∷ 1 ∷ 9 ∷ 5 ∷ 0 ∷ 1 ∷ 0 ∷ 0 ∷ 0 ∷ 0 ∷ 4 ∷ 0 ∷ 0 ∷ 0 ∷ 4 ∷ 5 ∷ 0 ∷ 0 ∷ 0 ∷ 0 ∷ 4 ∷ 0 ∷ 0 ∷ 0 ∷ 6 ∷ 5 ∷ 0 ∷ 0 ∷ 0 ∷ 0 ∷ []

-- "Record: 1 1 1 5 8 0 8 2; 4 0 0 0 5; 5 0 0 0 0."
abbrev words_c : List ℕ
words_c = 1 ∷ 1 ∷ 1 ∷ 5 ∷ 8 ∷ 0 ∷ 8 ∷ 2 ∷ 4 ∷ 0 ∷ 0 ∷ 0 ∷ 5 ∷ 5 ∷ 0 ∷ 0 ∷ 0 ∷ 0 ∷ []

-- a record of A: "cost 1", "plan 0 1 1", "nodes 9"
abbrev words_a : List ℕ
words_a = 1 ∷ 3 ∷ 0 ∷ 1 ∷ 8 ∷ 3 ∷ 11 ∷ 17 ∷ 0 ∷ 1 ∷ 1 ∷ 1 ∷ 0 ∷ 0 ∷ 0 ∷ 0 ∷ 1 ∷ 0 ∷ 1 ∷ 0 ∷ 0 ∷ 1 ∷ 0 ∷ 2 ∷ 0 ∷ 0 ∷ 2 ∷ 0 ∷ 0 ∷ 0 ∷ 5 ∷ 4 ∷ 0 ∷ 0 ∷ 0 ∷ 5 ∷ 5 ∷ 0 ∷ 0 ∷ 0 ∷ 0 ∷ 2 ∷ 0 ∷ 0 ∷ 0 ∷ 5 ∷ 4 ∷ 0 ∷ 0 ∷ 0 ∷ 5 ∷ 5 ∷ 0 ∷ 0 ∷ 0 ∷ 0 ∷ 1 ∷ 0 ∷ 2 ∷ 0 ∷ 0 ∷ 2 ∷ 1 ∷ 1 ∷ 1 ∷ 4 ∷ 4 ∷ 0 ∷ 1 ∷ 0 ∷ 4 ∷ 5 ∷ 0 ∷ 0 ∷ 0 ∷ 0 ∷ 5 ∷ 0 ∷ 0 ∷ 0 ∷ 0 ∷ 2 ∷ 0 ∷ 1 ∷ 1 ∷ 5 ∷ 4 ∷ 0 ∷ 0 ∷ 0 ∷ 3 ∷ 5 ∷ 0 ∷ 0 ∷ 0 ∷ 0 ∷ []

-- the whole records of A, B and C; then 8 before 7 before 13
abbrev whole : List Answer
whole =
    checked network_a table_a 14 (bytes_of words_a)
    ∷ checked network_b table_b 2 (bytes_of words_b)
    ∷ checked network_c table_c 1 (bytes_of words_c)
    ∷ checked network_b (4 ∷ 10 ∷ []) 1 (bytes_of [])
    ∷ checked network_b table_b 1 (bytes_of [])
    ∷ []

-- B's record damaged: the claimed cost not below k, and another than the plan's; a value out of range; a step of no kind; a branch of a variable that is not
-- there; a node closed 1 below the claim; a step after the tree; an unclosed tree, which "gives the count of words"
abbrev damaged : List Answer
damaged =
    map (λ (words : List ℕ). checked network_b table_b 2 (bytes_of words))
    (set words_b 3 9 ∷ set words_b 3 5 ∷ set words_b 8 2 ∷ set words_b 9 0 ∷ set words_b 11 1 ∷ set words_b 18 3 ∷ (set words_b 7 6 ++ (5 ∷ 0 ∷ 0 ∷ 0 ∷ 0 ∷ [])) ∷ take 29 (set words_b 7 4) ∷ [])

checks : whole ++ damaged
    ≡ (Done ∷ Done ∷ Done ∷ (Err NotNetwork) ∷ (Err ShortTable) ∷ []) ++ (Err (BrokenRule 3) ∷ Err (BrokenRule 3) ∷ Err (BrokenRule 8) ∷ Err (BrokenRule 9) ∷ Err (BrokenRule 9) ∷ Err (BrokenRule 19) ∷ Err (BrokenRule 34) ∷ Err (BrokenRule 29) ∷ [])
unfolding checked bytes_fault record_fault header_rules plan_rules steps_fault may word_at step_of judged is_network ranges_good sizes_good variables_good row_good scopes_good stretches_good costs_good price shifted is_legal gives in_stretch fixing minus
checks = refl

-- What the check of a record answers.
use Rattle.std.specs.Prelude.{ℕ, ◌+◌, ◌*◌, ◌/◌, ◌%◌, min, ◌≡◌, Bool, true, false, cond, not, ◌&&◌, ◌⊎◌, List, [], ◌∷◌, ◌++◌, leb, ltb, eqb, length, Ok, Err}
use Rattle.std.proofs.Math.Option.{none}
use Rattle.answers.specs.Answers.{Answer}
use Rattle.costs.specs.declared.networks.Network.{Network}
use Rattle.costs.specs.Range.{first_to}
use Rattle.costs.specs.Net.{Net, Costs, costs_of, price}
use Rattle.costs.specs.Networks.{stands}
use Rattle.judging.specs.Judging.{Judgement, judged, refusal_of}
use Rattle.records.specs.Words.{word_bytes, word_at}
use Rattle.records.specs.Steps.{step_words, step_at}
use Rattle.records.specs.Trees.{root}
use Rattle.records.specs.Records.{header_words, told, claims}
use Rattle.spelling.specs.Spelling.{Kept, steps_fault, StepsBreak}
use Rattle.desk.specs.Faults.{Rule, rule, fault_in, answer_to, AllKept, FirstBroken}

-- "edition 1; N; verdict (0 cheapest, 1 none); claimed cost c (below k, or equal to k for verdict 1)"
abbrev pub claim_rules : ℕ → ℕ → (ℕ → ℕ) → List Rule
claim_rules top vars word =
    rule 0 (eqb (word 0) 1)
    ∷ rule 1 (eqb (word 1) vars)
    ∷ rule 2 (leb (word 2) 1)
    ∷ rule 3 (cond (eqb (word 2) 0) (ltb (word 3) top) (eqb (word 3) top))
    ∷ []

-- "offset of the values, 8; their count; offset of the steps, 8 + count; number of steps", and the total length
abbrev pub shape_rules : (ℕ → ℕ) → ℕ → ℕ → List Rule
shape_rules word many count =
    rule 4 (eqb (word 4) header_words)
    ∷ rule 5 (eqb (word 5) count)
    ∷ rule 6 (eqb (word 6) (header_words + count))
    ∷ rule 7 (eqb many (header_words + count + step_words * word 7))
    ∷ []

-- "their count (N, or 0 for verdict 1)"
abbrev pub count_of : ℕ → (ℕ → ℕ) → ℕ
count_of vars word = cond (eqb (word 2) 0) vars 0

-- "header words in order, total length (7)"
unfoldable pub header_rules : ℕ → ℕ → (ℕ → ℕ) → ℕ → List Rule
header_rules top vars word many = claim_rules top vars word ++ shape_rules word many (count_of vars word)

-- the first variable whose value is not below its size, or their number
abbrev pub first_bad_value : ℕ → (ℕ → ℕ) → (ℕ → ℕ) → ℕ
first_bad_value vars size word = first_to vars (λ v. not (ltb (told word v) (size v)))

-- the values: each below its size
abbrev pub values_rule : ℕ → (ℕ → ℕ) → (ℕ → ℕ) → Rule
values_rule vars size word = rule (header_words + first_bad_value vars size word) (leb vars (first_bad_value vars size word))

-- "values, price (3)", where there is a plan
unfoldable pub plan_rules : Net → Costs → (ℕ → ℕ) → List Rule
plan_rules n held word =
    values_rule n.vars n.size word ∷ rule 3 (eqb (price n held (told word)) (word 3)) ∷ []

-- the rules of a record before its steps, in order
abbrev pub rules_of : Net → Costs → (ℕ → ℕ) → ℕ → List Rule
rules_of n held word many = header_rules n.top n.vars word many ++ cond (eqb (word 2) 0) (plan_rules n held word) []

-- "header words in order, total length (7), values, price (3), and steps by first word"
unfoldable pub record_fault : Net → Costs → (ℕ → ℕ) → ℕ → Kept
record_fault n held word many =
    fault_in (rules_of n held word many)
    (steps_fault (claims n held word) (step_at word) (word 7) (header_words + count_of n.vars word) (root n ∷ []) none)

-- a whole number of words, a header's at least
abbrev pub whole_words : ℕ → Bool
whole_words size = leb (header_words * word_bytes) size && eqb (size % word_bytes) 0

-- "a length under 64 or not a multiple of 8 gives 0"
unfoldable pub bytes_fault : Net → Costs → List ℕ → Kept
bytes_fault n held bytes = cond (whole_words (length bytes)) (record_fault n held (word_at bytes) (length bytes / word_bytes)) (Err 0)

-- the words of a record break their first rule at word j: one of those before the steps, or all these are kept and the steps fail there
abbrev pub RecordBreaksAt : Net → Costs → (ℕ → ℕ) → ℕ → ℕ → Type 0
RecordBreaksAt n held word many j =
    FirstBroken (rules_of n held word many) j
    ⊎ (AllKept (rules_of n held word many) × StepsBreak (claims n held word) (step_at word) (word 7) (header_words + count_of n.vars word) (root n ∷ []) none j)

-- and so do bytes: their length is none, "gives 0", or the words break it there
abbrev pub BreaksAt : Net → Costs → List ℕ → ℕ → Type 0
BreaksAt n held bytes j =
    ((whole_words (length bytes) ≡ false) × (j ≡ 0)) ⊎ ((whole_words (length bytes) ≡ true) × RecordBreaksAt n held (word_at bytes) (length bytes / word_bytes) j)

abbrev pub after_judge : Judgement → Answer → Answer
after_judge (Ok o) a = a
after_judge (Err why) a = refusal_of why

-- "8, 7, then the rest in table order": `room` is the length of the working table
unfoldable pub checked : Network → List ℕ → ℕ → List ℕ → Answer
checked net held room bytes =
    after_judge (judged net held (min (length held) room)) (answer_to (bytes_fault (stands net) (costs_of net.constant held) bytes))

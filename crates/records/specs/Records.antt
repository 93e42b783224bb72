-- The rules of a whole record, from its words. `word` tells each word, `many` how many there are.
use Rattle.std.specs.Prelude.{Some, ℕ, zero, suc, ◌+◌, ◌*◌, ◌≤◌, ◌<◌, ◌≡◌, cond, ◌⊎◌, List, [], ◌∷◌, ◌++◌, ltb, length}
use Rattle.costs.specs.Net.{Net, Costs, IsPlan, price}
use Rattle.records.specs.declared.steps.Step.{Step}
use Rattle.records.specs.Words.{word_bytes, word_at}
use Rattle.records.specs.Steps.{Spelt, step_words, spell, step_at}
use Rattle.records.specs.Rules.{Claim, claim_of, Keeps}

-- "A header of eight counts and offsets"
abbrev pub header_words : ℕ
header_words = 8

-- "edition 1; N; verdict; claimed cost c; offset of the values, 8; their count; offset of the steps, 8 + count; number of steps"
abbrev pub header_of : ℕ → ℕ → ℕ → ℕ → ℕ → List ℕ
header_of vars verdict cost count steps = 1 ∷ vars ∷ verdict ∷ cost ∷ header_words ∷ count ∷ (header_words + count) ∷ steps ∷ []

-- "verdict (0 cheapest, 1 none)"; "claimed cost c (below k, or equal to k for verdict 1)"
abbrev pub verdict_of : ℕ → ℕ → ℕ
verdict_of top cost = cond (ltb cost top) 0 1

-- these steps stand in `left` times five words from word w on
abbrev pub Reads : (ℕ → Spelt) → ℕ → ℕ → List Step → Type 0
Reads at zero w [] = Unit {0}
Reads at zero w (s ∷ ss) = ⊥
Reads at (suc left) w [] = ⊥
Reads at (suc left) w (s ∷ ss) = (at w ≡ Some s) × Reads at left (w + step_words) ss

-- the words from w on spell steps that keep the rules
pub record StepsKept (r : Claim) (word : ℕ → ℕ) (left w : ℕ) : Type 0 where
  pub steps : List Step
  pub reads : Reads (step_at word) left w steps
  pub keeps : Keeps r steps

-- "offset of the values, 8; their count (N, or 0 for verdict 1); offset of the steps, 8 + count; number of steps." "Offsets count words."
pub record Shape (word : ℕ → ℕ) (many count : ℕ) : Type 0 where
  pub values_from : word 4 ≡ header_words
  pub values : word 5 ≡ count
  pub steps_from : word 6 ≡ header_words + count
  pub whole : many ≡ header_words + count + step_words * word 7

-- "Then the plan's values"
abbrev pub told : (ℕ → ℕ) → ℕ → ℕ
told word v = word (header_words + v)

abbrev pub claims : Net → Costs → (ℕ → ℕ) → Claim
claims n held word = claim_of n held (word 3)

-- "verdict (0 cheapest)"; "claimed cost c (below k)"; "and for verdict 0 the plan costs c"
pub record SaysCheapest (n : Net) (held : Costs) (word : ℕ → ℕ) (many : ℕ) : Type 0 where
  pub verdict : word 2 ≡ 0
  pub cost : word 3 < n.top
  pub shape : Shape word many n.vars
  pub plan : IsPlan n (told word)
  pub priced : price n held (told word) ≡ word 3
  pub steps : StepsKept (claims n held word) word (word 7) (header_words + n.vars)

-- "1 none"; "or equal to k for verdict 1"
pub record SaysNone (n : Net) (held : Costs) (word : ℕ → ℕ) (many : ℕ) : Type 0 where
  pub verdict : word 2 ≡ 1
  pub cost : word 3 ≡ n.top
  pub shape : Shape word many 0
  pub steps : StepsKept (claims n held word) word (word 7) header_words

-- "edition 1; N; verdict"
pub record KeepsRules (n : Net) (held : Costs) (word : ℕ → ℕ) (many : ℕ) : Type 0 where
  pub edition : word 0 ≡ 1
  pub vars : word 1 ≡ n.vars
  pub claim : SaysCheapest n held word many ⊎ SaysNone n held word many

-- "A record keeps the rules": bytes that are whole words, a header's at least
pub record KeptBy (n : Net) (held : Costs) (bytes : List ℕ) : Type 0 where
  pub words : ℕ
  pub whole : length bytes ≡ words * word_bytes
  pub header : header_words ≤ words
  pub rules : KeepsRules n held (word_at bytes) words

-- the words of a record: its header, "then the plan's values, then steps"
abbrev pub record_of : ℕ → ℕ → ℕ → List ℕ → List Step → List ℕ
record_of vars verdict cost values steps = header_of vars verdict cost (length values) (length steps) ++ (values ++ spell steps)

-- those of the record that claims a cost with a plan's values, none for the verdict "none", and these steps
abbrev pub record_words : Net → ℕ → List ℕ → List Step → List ℕ
record_words n cost values steps = record_of n.vars (verdict_of n.top cost) cost values steps

-- Rules in their order, each at its word: the fault is at the first that is broken.
use Rattle.std.specs.Prelude.{ℕ, ◌≡◌, Bool, cond, not, ◌⊎◌, List, [], ◌∷◌, T, Ok, Err}
use Rattle.answers.specs.Answers.{Answer, Done}
use Rattle.answers.specs.declared.Refusal.TheVariants.{BrokenRule}
use Rattle.spelling.specs.Spelling.{Kept}

pub record Rule : Type 0 where
  pub word : ℕ
  pub kept : Bool

abbrev pub rule : ℕ → Bool → Rule
rule w t = record { word = w; kept = t }

-- the word of the first broken rule; where there is none, the fault that comes later
abbrev pub fault_in : List Rule → Kept → Kept
fault_in [] later = later
fault_in (r ∷ rs) later = cond r.kept (fault_in rs later) (Err r.word)

-- "13: record breaks a rule: word number"
abbrev pub answer_to : Kept → Answer
answer_to (Ok x) = Done
answer_to (Err w) = Err (BrokenRule w)

-- each rule of a list is kept
abbrev pub AllKept : List Rule → Type 0
AllKept [] = Unit {0}
AllKept (r ∷ rs) = T r.kept × AllKept rs

-- the first rule of a list that is broken is one of word j
abbrev pub FirstBroken : List Rule → ℕ → Type 0
FirstBroken [] j = ⊥
FirstBroken (r ∷ rs) j = (T (not r.kept) × (r.word ≡ j)) ⊎ (T r.kept × FirstBroken rs j)

-- "steps of five words: kind, function, variable, value, amount; unused words are 0"
use Rattle.std.specs.Prelude.{ℕ, ◌+◌, Bool, cond, ◌&&◌, Option, Some, None, List, [], ◌∷◌, ◌++◌, eqb}
use Rattle.shifts.specs.declared.moves.Move.TheVariants.{Project, Extend, Raise}
use Rattle.records.specs.declared.steps.Step.{Step}
use Rattle.records.specs.declared.steps.Step.TheVariants.{Branch, Shift, Close}

-- "Kinds: 1 branch (variable, not yet fixed), 2 project, 3 extend, 4 raise (variable, amount), 5 close."
abbrev pub words_of : Step → List ℕ
words_of (Branch i) = 1 ∷ 0 ∷ i ∷ 0 ∷ 0 ∷ []
words_of (Shift (Project f i a m)) = 2 ∷ f ∷ i ∷ a ∷ m ∷ []
words_of (Shift (Extend f i a m)) = 3 ∷ f ∷ i ∷ a ∷ m ∷ []
words_of (Shift (Raise i m)) = 4 ∷ 0 ∷ i ∷ 0 ∷ m ∷ []
words_of Close = 5 ∷ 0 ∷ 0 ∷ 0 ∷ 0 ∷ []

-- a step is five words
abbrev pub step_words : ℕ
step_words = 5

-- the words of one step after the other
abbrev pub spell : List Step → List ℕ
spell [] = []
spell (s ∷ ss) = words_of s ++ spell ss

-- what five words spell: a step, or nothing
abbrev pub Spelt : Type 0
Spelt = Option Step

-- "unused words are 0": 0 stands for a word that is used
abbrev pub all_zero : ℕ → ℕ → ℕ → ℕ → Bool
all_zero f i a m = eqb f 0 && (eqb i 0 && (eqb a 0 && eqb m 0))

abbrev pub spelt_if : Bool → Step → Spelt
spelt_if zeros s = cond zeros (Some s) None

-- the step that five words spell
unfoldable pub step_of : ℕ → ℕ → ℕ → ℕ → ℕ → Spelt
step_of kind f i a m =
    cond (eqb kind 1) (spelt_if (all_zero f 0 a m) (Branch i))
    (cond (eqb kind 2) (Some (Shift (Project f i a m)))
    (cond (eqb kind 3) (Some (Shift (Extend f i a m)))
    (cond (eqb kind 4) (spelt_if (all_zero f 0 a 0) (Shift (Raise i m)))
    (cond (eqb kind 5) (spelt_if (all_zero f i a m) Close)
    None))))

-- the step whose first word is word w of a record with these words
abbrev pub step_at : (ℕ → ℕ) → ℕ → Spelt
step_at word w = step_of (word w) (word (w + 1)) (word (w + 2)) (word (w + 3)) (word (w + 4))

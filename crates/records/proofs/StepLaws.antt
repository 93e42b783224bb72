-- How many words steps are. Assumes nothing.
use Rattle.std.proofs.Common.{◌*◌, ◌≡◌, refl, List, [], ◌∷◌, arith, length, length-append}
use Rattle.shifts.specs.declared.moves.Move.TheVariants.{Project, Extend, Raise}
use Rattle.records.specs.declared.steps.Step.{Step}
use Rattle.records.specs.declared.steps.Step.TheVariants.{Branch, Shift, Close}
use Rattle.records.specs.Steps.{words_of, step_words, spell}

pub words_many : (s : Step) → length (words_of s) ≡ step_words
words_many (Branch i) = refl
words_many (Shift (Project f i a m)) = refl
words_many (Shift (Extend f i a m)) = refl
words_many (Shift (Raise i m)) = refl
words_many Close = refl

pub spell_many : (ss : List Step) → length (spell ss) ≡ step_words * length ss
spell_many [] = refl
spell_many (s ∷ ss) = rw (length-append, words_many s, spell_many ss) (omega arith)

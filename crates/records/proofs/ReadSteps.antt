-- Steps that stand in words are read back, and no other list of steps is. Assumes nothing.
use Rattle.std.proofs.Common.{ℕ, zero, suc, ◌+◌, ◌≡◌, refl, sym, ap, ◌∙◌, List, [], ◌∷◌, ◌++◌, append_assoc, arith, add-zero, length, get_or, length-append, get_or-append-add, Some, None}
use Rattle.shifts.specs.declared.moves.Move.TheVariants.{Project, Extend, Raise}
use Rattle.records.specs.declared.steps.Step.{Step}
use Rattle.records.specs.declared.steps.Step.TheVariants.{Branch, Shift, Close}
use Rattle.records.specs.Words.{tells}
use Rattle.records.specs.Steps.{Spelt, words_of, step_words, spell, step_of, step_at}
use Rattle.records.specs.Records.{Reads}
use Rattle.records.proofs.StepLaws.{words_many}

-- a step is read where it stands
read_five : (pre ys : List ℕ) → step_at (tells (pre ++ ys)) (length pre) ≡ step_of (get_or ys 0 0) (get_or ys 1 0) (get_or ys 2 0) (get_or ys 3 0) (get_or ys 4 0)
read_five pre ys =
    let e : get_or (pre ++ ys) (length pre) 0 ≡ get_or ys 0 0 = ap (λ (k : ℕ). get_or (pre ++ ys) k 0) (sym (add-zero (length pre))) ∙ get_or-append-add pre ys 0 0 in
    rw (e, get_or-append-add pre ys 1 0, get_or-append-add pre ys 2 0, get_or-append-add pre ys 3 0, get_or-append-add pre ys 4 0)

read_one : (s : Step) (rest : List ℕ)
    → step_of (get_or (words_of s ++ rest) 0 0) (get_or (words_of s ++ rest) 1 0) (get_or (words_of s ++ rest) 2 0) (get_or (words_of s ++ rest) 3 0) (get_or (words_of s ++ rest) 4 0) ≡ Some s
unfolding step_of
read_one (Branch i) rest = refl
read_one (Shift (Project f i a m)) rest = refl
read_one (Shift (Extend f i a m)) rest = refl
read_one (Shift (Raise i m)) rest = refl
read_one Close rest = refl

pub reads_spell : (pre : List ℕ) (ss : List Step) → Reads (step_at (tells (pre ++ spell ss))) (length ss) (length pre) ss
reads_spell pre [] = tt
reads_spell pre (s ∷ ss) =
    let l : length (pre ++ words_of s) ≡ length pre + step_words = length-append pre (words_of s) ∙ omega (arith, words_many s) in
    (read_five pre (words_of s ++ spell ss) ∙ read_one s (spell ss), rw (append_assoc, l) at (reads_spell (pre ++ words_of s) ss))

-- the step that is spelt, if one is
abbrev step_in : Spelt → Step
step_in (Some s) = s
step_in None = Close

-- words read as one list of steps only
pub reads_one : (at : ℕ → Spelt) (left w : ℕ) (ss ts : List Step) → Reads at left w ss → Reads at left w ts → ss ≡ ts
reads_one at zero w [] [] h k = refl
reads_one at zero w [] (t ∷ ts) h k = absurd k
reads_one at zero w (s ∷ ss) ts h k = absurd h
reads_one at (suc left) w [] ts h k = absurd h
reads_one at (suc left) w (s ∷ ss) [] h k = absurd k
reads_one at (suc left) w (s ∷ ss) (t ∷ ts) h k =
    let e : s ≡ t = ap step_in (sym h.0 ∙ k.0) in
    let f : ss ≡ ts = reads_one at left (w + step_words) ss ts h.1 k.1 in
    λ i. e i ∷ f i

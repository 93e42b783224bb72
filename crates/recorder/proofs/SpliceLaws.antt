-- Laws of bytes written into a buffer. Assumes nothing.
use Rattle.std.proofs.Common.{ℕ, ◌+◌, ◌-◌, ◌*◌, ◌/◌, ◌≤◌, ◌<◌, ◌≡◌, refl, sym, ap, ◌∙◌, Bool, true, false, cond, Some, List, [], ◌∷◌, ◌++◌, append_assoc, append-nil, arith, add-one, le-leb, length, get_or, take, drop, replicate, length-append, length-drop, take-append-drop, length-take-le, take_at, drop_at, drop-drop, take-suc, w64}
use Rattle.std.specs.Int.{to_le_bytes}
use Rattle.std.specs.List.{copy_within}
use Rattle.std.proofs.Math.Nat.{div-div-eq-div-mul}
use Rattle.std.proofs.lemmas.Bool.{lt-leb}
use Rattle.std.proofs.lemmas.List.{drop-take}
use Rattle.std.proofs.lemmas.List.Edits.{paste_all}
use Rattle.std.proofs.lemmas.Slice.{put_mid-paste}
use borrow.Rule.Slice.PartMut.{put_mid}
use Rattle.std.proofs.Math.Seq.{drop-append-le}
use Rattle.records.specs.declared.steps.Step.{Step}
use Rattle.records.specs.Words.{word_bytes, bytes_to, bytes_of}
use Rattle.records.specs.Steps.{words_of, spell}
use Rattle.records.specs.Records.{header_of, record_of}
use Rattle.records.proofs.WordLaws.{bytes_to_many, bytes_of_many}
use Rattle.records.proofs.StepLaws.{words_many, spell_many}
use Rattle.costs.specs.Range.{list_to}
use Rattle.costs.proofs.ListLaws.{list_length}
use Rattle.recorder.specs.Ties.Splicing.{spliced, header_bytes, step_bytes, HoldsSteps, Spot, Adds, verdict_bit, values_of, Finished}

pub bytes_of-append : (xs ys : List ℕ) → bytes_of (xs ++ ys) ≡ bytes_of xs ++ bytes_of ys
bytes_of-append [] ys = refl
bytes_of-append (x ∷ xs) ys = rw (bytes_of-append xs ys, append_assoc)

pub spell-append : (ss ts : List Step) → spell (ss ++ ts) ≡ spell ss ++ spell ts
spell-append [] ts = refl
spell-append (s ∷ ss) ts = rw (spell-append ss ts, append_assoc)

module _ (at : ℕ) (xs out : List ℕ) (fits : at + length xs ≤ length out) where
  front : length (take at out) ≡ at
  front = length-take-le at out (omega arith)

  pub spliced-length : length (spliced at xs out) ≡ length out
  unfolding spliced
  spliced-length = simp (length-append, length-drop) (omega (arith, front))

  pub take-spliced : take (at + length xs) (spliced at xs out) ≡ take at out ++ xs
  unfolding spliced
  take-spliced = rw (← append_assoc) (take_at (take at out ++ xs) _ (at + length xs) (length-append (take at out) xs ∙ omega (arith, front)))

  pub drop-spliced : drop (at + length xs) (spliced at xs out) ≡ drop (at + length xs) out
  unfolding spliced
  drop-spliced = rw (← append_assoc) (drop_at (take at out ++ xs) _ (at + length xs) (length-append (take at out) xs ∙ omega (arith, front)))

spliced_is : (at : ℕ) (xs out : List ℕ) → spliced at xs out ≡ take at out ++ (xs ++ drop (at + length xs) out)
unfolding spliced
spliced_is at xs out = refl

-- what is written into a part of the buffer
pub put_spliced : (at k : ℕ) (ys xs out : List ℕ) → ys ≡ xs → k ≡ length xs → put_mid at k out ys ≡ spliced at xs out
put_spliced at k ys xs out e l = put_mid-paste at k out ys xs k e refl l ∙ paste_all out at xs k l ∙ rw l (sym (spliced_is at xs out))

-- the library's bytes of a word, the lowest first
pub word_low : (x : ℕ) → to_le_bytes w64 x ≡ bytes_to word_bytes x
word_low x = simp div-div-eq-div-mul

-- what is written behind what was just written
pub spliced_then : (at b : ℕ) (xs ys out : List ℕ) → b ≡ at + length xs → b + length ys ≤ length out → spliced b ys (spliced at xs out) ≡ spliced at (xs ++ ys) out
spliced_then at b xs ys out e fits =
    let front : take b (spliced at xs out) ≡ take at out ++ xs = rw e (take-spliced at xs out (omega arith)) in
    let back : drop b (spliced at xs out) ≡ drop b out = rw e (drop-spliced at xs out (omega arith)) in
    let rest : drop (b + length ys) (spliced at xs out) ≡ drop (b + length ys) out = sym (drop-drop (length ys) b (spliced at xs out)) ∙ ap (drop (length ys)) back ∙ drop-drop (length ys) b out in
    let place : at + length (xs ++ ys) ≡ b + length ys = omega (arith, length-append xs ys) in
    spliced_is b ys (spliced at xs out) ∙ rw (front, rest, spliced_is at (xs ++ ys) out, place) (simp append_assoc)

-- words, one after the other
pub word_then : (at b x : ℕ) (xs o out : List ℕ) → o ≡ spliced at (bytes_of xs) out → b ≡ at + length xs * word_bytes → b + word_bytes ≤ length out → spliced b (bytes_to word_bytes x) o ≡ spliced at (bytes_of (xs ++ (x ∷ []))) out
word_then at b x xs o out e p fits =
    let one : bytes_of (x ∷ []) ≡ bytes_to word_bytes x = append-nil (bytes_to word_bytes x) in
    rw (e, bytes_of-append xs (x ∷ []), one) (spliced_then at b (bytes_of xs) (bytes_to word_bytes x) out (omega (arith, bytes_of_many xs)) (omega (arith, bytes_to_many word_bytes x)))

-- a step more, where there is room for it
pub adds_more : (out out' : List ℕ) (at : ℕ) (s : Step) → at + step_bytes ≤ length out → out' ≡ spliced at (bytes_of (words_of s)) out → Adds out (Some at) out' (Some (at + step_bytes)) (s ∷ [])
adds_more out out' at s fits e steps h = record {
  place = omega (arith, h.place, length-append steps (s ∷ []));
  fits = rw e (omega (arith, spliced-length at (bytes_of (words_of s)) out (omega (arith, many))));
  bytes = rw (e, front, spell-append steps (s ∷ []), bytes_of-append (spell steps) (words_of s ++ []), append-nil (words_of s), drop-append-le header_bytes (take at out) (bytes_of (words_of s)) (omega (arith, length-take-le at out h.fits, h.place)), h.bytes);
}
  where
    many : length (bytes_of (words_of s)) ≡ step_bytes
    many = omega (arith, bytes_of_many (words_of s), words_many s)

    front : take (at + step_bytes) (spliced at (bytes_of (words_of s)) out) ≡ take at out ++ bytes_of (words_of s)
    front = rw (← many) (take-spliced at (bytes_of (words_of s)) out (omega (arith, many)))

pub adds_then : (o p q : List ℕ) (x y z : Spot) (more after : List Step) → Adds o x p y more → Adds p y q z after → Adds o x q z (more ++ after)
adds_then o p q x y z more after f g steps h = rw (← append_assoc) (g (steps ++ more) (f steps h))

-- nothing written
pub spliced_none : (at : ℕ) (out : List ℕ) → spliced at [] out ≡ out
unfolding spliced
spliced_none at out = let e : at + 0 ≡ at = omega arith in rw e (take-append-drop at out)

pub words_turn : (at i : ℕ) (words o' o out : List ℕ) → i < length words → at + length words * word_bytes ≤ length out → o ≡ spliced at (bytes_of (take i words)) out
    → o' ≡ spliced (at + i * word_bytes) (bytes_to word_bytes (get_or words i 0)) o → o' ≡ spliced at (bytes_of (take (i + 1) words)) out
words_turn at i words o' o out l fits e e' =
    let many : length (take i words) ≡ i = length-take-le i words (omega arith) in
    rw (add-one, take-suc words i 0 l) (e' ∙ word_then at (at + i * word_bytes) (get_or words i 0) (take i words) o out e (omega (arith, many)) (omega arith))

pub values_turn : (v x : ℕ) (p : ℕ → ℕ) (o out : List ℕ) → header_bytes + (v + 1) * word_bytes ≤ length out → o ≡ spliced header_bytes (bytes_of (list_to v p)) out → x ≡ p v
    → spliced (header_bytes + v * word_bytes) (bytes_to word_bytes x) o ≡ spliced header_bytes (bytes_of (list_to (v + 1) p)) out
values_turn v x p o out h e q = rw (add-one, ← q) (word_then header_bytes (header_bytes + v * word_bytes) x (list_to v p) o out e (omega (arith, list_length v p)) (omega arith))

-- the steps, moved up
pub moved_up : (at by : ℕ) (out : List ℕ) → header_bytes ≤ at → at ≤ length out → copy_within out header_bytes at (header_bytes + by) ≡ spliced (header_bytes + by) (drop header_bytes (take at out)) out
moved_up at by out l h =
    let e : header_bytes + (at - header_bytes) ≡ at = omega arith in
    let part : take (at - header_bytes) (drop header_bytes out) ≡ drop header_bytes (take at out) = sym (rw e at (drop-take header_bytes (at - header_bytes) out)) in
    let many : at - header_bytes ≡ length (drop header_bytes (take at out)) = sym (length-drop header_bytes (take at out) ∙ ap (λ (n : ℕ). n - header_bytes) (length-take-le at out h)) in
    rw (part, many, append_assoc) (sym (spliced_is (header_bytes + by) (drop header_bytes (take at out)) out))

-- the record put together: the steps moved up, the header and the values in front, zeros behind
pub assembled : (at by : ℕ) (h v : List ℕ) (steps : List Step) (o1 o2 o3 o4 out : List ℕ) → HoldsSteps out at steps → at + by ≤ length out → length h * word_bytes ≡ header_bytes → by ≡ length v * word_bytes
    → o1 ≡ spliced (header_bytes + by) (drop header_bytes (take at out)) out → o2 ≡ spliced 0 (bytes_of h) o1 → o3 ≡ spliced header_bytes (bytes_of v) o2
    → o4 ≡ take (at + by) o3 ++ replicate (length o3 - (at + by)) 0
    → Finished (bytes_of (h ++ (v ++ spell steps))) (length out) true o4
assembled at by h v steps o1 o2 o3 o4 out kept fits hl vl e1 e2 e3 e4 = record {
  fits_is = rw size (sym (le-leb (at + by) (length out) fits));
  holds = e4 ∙ rw (whole, long, size) refl;
}
  where
    S : List ℕ
    S = bytes_of (spell steps)

    sl : length S ≡ at - header_bytes
    sl = bytes_of_many (spell steps) ∙ omega (arith, spell_many steps, kept.place)

    first : o1 ≡ spliced (header_bytes + by) S out
    first = e1 ∙ ap (λ (l : List ℕ). spliced (header_bytes + by) l out) kept.bytes

    len1 : length o1 ≡ length out
    len1 = ap length first ∙ spliced-length (header_bytes + by) S out (omega (arith, sl, kept.place))

    X : List ℕ
    X = bytes_of h ++ bytes_of v

    xl : length X ≡ header_bytes + by
    xl = length-append (bytes_of h) (bytes_of v) ∙ omega (arith, bytes_of_many h, bytes_of_many v)

    third : o3 ≡ spliced 0 X o1
    third = e3 ∙ ap (spliced header_bytes (bytes_of v)) e2 ∙ spliced_then 0 header_bytes (bytes_of h) (bytes_of v) o1 (omega (arith, bytes_of_many h)) (omega (arith, len1, bytes_of_many v, kept.place))

    back : drop (header_bytes + by) o1 ≡ S ++ drop (header_bytes + by + length S) out
    back = ap (drop (header_bytes + by)) (first ∙ spliced_is (header_bytes + by) S out) ∙ drop_at (take (header_bytes + by) out) _ (header_bytes + by) (length-take-le (header_bytes + by) out (omega (arith, kept.place)))

    apart : o3 ≡ (X ++ S) ++ drop (header_bytes + by + length S) out
    apart =
        let z : 0 + length X ≡ header_bytes + by = omega (arith, xl) in
        third ∙ spliced_is 0 X o1 ∙ ap (λ (l : List ℕ). X ++ l) (ap (λ (m : ℕ). drop m o1) z ∙ back) ∙ sym (append_assoc X S _)

    all : bytes_of (h ++ (v ++ spell steps)) ≡ X ++ S
    all = bytes_of-append h (v ++ spell steps) ∙ ap (λ (l : List ℕ). bytes_of h ++ l) (bytes_of-append v (spell steps)) ∙ sym (append_assoc (bytes_of h) (bytes_of v) S)

    both : length (X ++ S) ≡ at + by
    both = length-append X S ∙ omega (arith, xl, sl, kept.place)

    size : length (bytes_of (h ++ (v ++ spell steps))) ≡ at + by
    size = ap length all ∙ both

    whole : take (at + by) o3 ≡ bytes_of (h ++ (v ++ spell steps))
    whole = ap (take (at + by)) apart ∙ take_at (X ++ S) _ (at + by) both ∙ sym all

    long : length o3 ≡ length out
    long = ap length third ∙ spliced-length 0 X o1 (omega (arith, xl, len1, kept.place)) ∙ len1

pub record_size : (vars verdict cost : ℕ) (values : List ℕ) (steps : List Step)
    → length (bytes_of (record_of vars verdict cost values steps)) ≡ header_bytes + length values * word_bytes + step_bytes * length steps
record_size vars verdict cost values steps = bytes_of_many (record_of vars verdict cost values steps) ∙ omega (arith, length-append values (spell steps), spell_many steps)

-- a record that is longer than the buffer
pub finished_over : (vars verdict cost : ℕ) (values : List ℕ) (steps : List Step) (o out : List ℕ) → length out < header_bytes + length values * word_bytes + step_bytes * length steps
    → o ≡ take 0 out ++ replicate (length out - 0) 0 → Finished (bytes_of (record_of vars verdict cost values steps)) (length out) false o
finished_over vars verdict cost values steps o out l e = record {
  fits_is = sym (lt-leb (length (bytes_of (record_of vars verdict cost values steps))) (length out) (omega (arith, record_size vars verdict cost values steps)));
  holds = let z : length out - 0 ≡ length out = omega arith in e ∙ rw z;
}

pub values_size : (vars : ℕ) (found : Bool) (plan : List ℕ) → length (values_of vars found plan) ≡ cond found vars 0
values_size vars found plan = list_length (cond found vars 0) (λ v. get_or plan v 0)

-- one that is not
pub finished_whole : (vars : ℕ) (found : Bool) (cost : ℕ) (plan : List ℕ) (steps : List Step) (at count : ℕ) (o1 o2 o3 o4 out : List ℕ) → HoldsSteps out at steps → count ≡ cond found vars 0
    → at + count * word_bytes ≤ length out
    → o1 ≡ copy_within out header_bytes at (header_bytes + count * word_bytes)
    → o2 ≡ spliced 0 (bytes_of (header_of vars (verdict_bit found) cost count ((at - header_bytes) / step_bytes))) o1
    → o3 ≡ spliced header_bytes (bytes_of (list_to count (λ v. get_or plan v 0))) o2
    → o4 ≡ take (at + count * word_bytes) o3 ++ replicate (length o3 - (at + count * word_bytes)) 0
    → Finished (bytes_of (record_of vars (verdict_bit found) cost (values_of vars found plan) steps)) (length out) true o4
finished_whole vars found cost plan steps at count o1 o2 o3 o4 out kept ec fits e1 e2 e3 e4 =
    let size : length (list_to count (λ v. get_or plan v 0)) ≡ count = list_length count (λ v. get_or plan v 0) in
    let steps-many : (at - header_bytes) / step_bytes ≡ length steps = omega (arith, kept.place) in
    let done = assembled at (count * word_bytes) (header_of vars (verdict_bit found) cost count ((at - header_bytes) / step_bytes)) (list_to count (λ v. get_or plan v 0)) steps o1 o2 o3 o4 out kept fits (omega arith) (omega (arith, size)) (e1 ∙ moved_up at (count * word_bytes) out (omega (arith, kept.place)) kept.fits) e2 e3 e4 in
    rw (values_size vars found plan) (rw (steps-many, ec) at done)

pub at_most : (vars : ℕ) (found : Bool) (count : ℕ) → count ≡ cond found vars 0 → count ≤ vars
at_most vars true count e = omega arith
at_most vars false count e = omega arith

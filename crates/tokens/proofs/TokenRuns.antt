-- "Tokens are runs of bytes other than space, tab, LF and CR": what reading comes to, from the start on, are the maximal runs of dark bytes, each
-- of them once and nothing else. Assumes nothing.
use Rattle.std.proofs.Common.{ℕ, zero, suc, ◌+◌, ◌-◌, ◌≤◌, ◌<◌, ◌≡◌, refl, sym, ap, ◌∙◌, Bool, true, false, not, ◌⊎◌, inl, inr, ⊎_elim, List, arith, length, get_or}
use native.Mathlib.Decide.{dec_lt, ℕ_discrete}
use borrow.Author.Tests.{not-false}
use Rattle.tokens.specs.declared.tokens.Token.{Token}
use Rattle.tokens.specs.Tokens.{white, dark, past, token_at}
use Rattle.tokens.specs.Runs.{Passes, Run, Reached, begin, after}
use Rattle.tokens.proofs.PastLaws.{past_end, past_stop, past_more, past_from, past_most, past_in}

-- what `past` passes, and where it stops
passed : (p : ℕ → Bool) (s : List ℕ) (n i : ℕ) → length s ≤ i + n → Passes p s i (past p s i) × (past p s i < length s → p (get_or s (past p s i) 0) ≡ false)
passed p s zero i h =
    let e = past_end p s i (omega arith) in
    (record { each = λ j l m. absurd (omega (arith, e)) }, λ l. absurd (omega (arith, e)))
passed p s (suc n) i h = elim (dec_lt i (length s)) [
  | no q ↦
      let e = past_end p s i (omega arith) in
      (record { each = λ j l m. absurd (omega (arith, e)) }, λ l. absurd (omega (arith, e)))
  | yes q ↦ go (p (get_or s i 0)) refl q (passed p s n (i + 1) (omega arith))
]
  where
    go : (b : Bool) → p (get_or s i 0) ≡ b → i < length s → Passes p s (i + 1) (past p s (i + 1)) × (past p s (i + 1) < length s → p (get_or s (past p s (i + 1)) 0) ≡ false)
        → Passes p s i (past p s i) × (past p s i < length s → p (get_or s (past p s i) 0) ≡ false)
    go false e q r =
        let f = past_stop p s i q e in
        (record { each = λ j l m. absurd (omega (arith, f)) }, λ l. rw f e)
    go true e q r =
        let f = past_more p s i q e in
        rw f (record { each = λ j l m. elim (ℕ_discrete j i) [ yes x ↦ rw x e | no x ↦ r.0.each j (omega arith) m ] }, r.1)

skipped : (p : ℕ → Bool) (s : List ℕ) (i : ℕ) → Passes p s i (past p s i)
skipped p s i = (passed p s (length s) i (omega arith)).0

stopped : (p : ℕ → Bool) (s : List ℕ) (i : ℕ) → past p s i < length s → p (get_or s (past p s i) 0) ≡ false
stopped p s i = (passed p s (length s) i (omega arith)).1

light : (b : ℕ) → dark b ≡ false → white b ≡ true
unfolding dark
light b e = not-false (white b) e

clash : (b : ℕ) → dark b ≡ true → white b ≡ true → ⊥
unfolding dark
clash b e f = let z : false ≡ true = sym (ap not f) ∙ e in absurd (let y : ◌≡◌ {A = ℕ} 0 1 = cc in omega arith)

-- where reading has come to, either nothing was read or the byte there is white
here : (s : List ℕ) (at : ℕ) → Reached s at → (at ≡ 0) ⊎ (at < length s → white (get_or s at 0) ≡ true)
unfolding token_at
here s at begin = inl refl
here s at (after before r) = inr (λ l. light (get_or s (past dark s (past white s before)) 0) (stopped dark s (past white s before) l))

-- what reading comes to is a maximal run
pub token_run : (s : List ℕ) (at : ℕ) → Reached s at → (token_at s at).start < (token_at s at).end → Run s (token_at s at)
unfolding token_at
token_run s at r h =
    let start = past white s at in
    let inside = past_in dark s start h in
    record {
      some = h;
      in_text = inside;
      filled = skipped dark s start;
      begins = elim (dec_lt at start) [
        | yes q ↦ inr (λ i e. (skipped white s at).each i (omega arith) (omega arith))
        | no q ↦
            let e : start ≡ at = omega (arith, past_from white s at) in
            ⊎_elim (λ z. inl (e ∙ z)) (λ w. absurd (clash (get_or s start 0) ((skipped dark s start).each start (omega arith) h) (rw e (w (omega arith))))) (here s at r)
      ];
      ends = λ l. light (get_or s (past dark s start) 0) (stopped dark s start l);
    }

-- a run ends where reading from its start stops
same_end : (s : List ℕ) (t : Token) → Run s t → past dark s t.start ≡ t.end
same_end s t run =
    let end = past dark s t.start in
    elim (dec_lt end t.end) [
      | yes q ↦ absurd (clash (get_or s end 0) (run.filled.each end (past_from dark s t.start) q) (light (get_or s end 0) (stopped dark s t.start (omega (arith, run.in_text)))))
      | no q ↦ elim (dec_lt t.end end) [
        | yes w ↦
            absurd (clash (get_or s t.end 0) ((skipped dark s t.start).each t.end (omega (arith, run.some)) w)
            (run.ends (omega (arith, past_most dark s t.start (omega (arith, run.in_text, run.some))))))
        | no w ↦ omega arith
      ]
    ]

-- the next token starts no later than a run that is ahead
no_later : (s : List ℕ) (t : Token) → Run s t → (at : ℕ) → at ≤ t.start → past white s at ≤ t.start
no_later s t run at h = elim (dec_lt t.start (past white s at)) [
  | yes q ↦ absurd (clash (get_or s t.start 0) (run.filled.each t.start (omega arith) run.some) ((skipped white s at).each t.start h q))
  | no q ↦ omega arith
]

-- and one that starts earlier ends before it, with a byte at least
earlier : (s : List ℕ) (t : Token) → Run s t → (at : ℕ) → past white s at < t.start
    → (past white s at < past dark s (past white s at)) × (past dark s (past white s at) ≤ t.start)
unfolding dark
earlier s t run at l =
    let start = past white s at in
    let q : start < length s = omega (arith, run.in_text, run.some) in
    let d = past_more dark s start q (ap not (stopped white s at q)) in (
      omega (arith, d, past_from dark s (start + 1)),
      elim (dec_lt t.start (past dark s start)) [
        | no w ↦ omega arith
        | yes w ↦ ⊎_elim (λ z. absurd (omega arith)) (λ f. absurd (clash (get_or s (t.start - 1) 0) ((skipped dark s start).each (t.start - 1) (omega arith) (omega arith)) (f (t.start - 1) (omega arith)))) run.begins
      ],
    )

-- each maximal run is come to, from any position before it that was come to
run_token_from : (s : List ℕ) (t : Token) → Run s t → (n at : ℕ) → Reached s at → at ≤ t.start → t.start ≤ at + n → (p : ℕ) × Reached s p × (token_at s p ≡ t)
unfolding token_at
run_token_from s t run zero at r h k =
    let e : past white s at ≡ t.start = omega (arith, no_later s t run at h, past_from white s at) in
    (at, r, λ i. record { start = e i; end = (ap (past dark s) e ∙ same_end s t run) i })
run_token_from s t run (suc n) at r h k = elim (ℕ_discrete (past white s at) t.start) [
  | yes e ↦ (at, r, λ i. record { start = e i; end = (ap (past dark s) e ∙ same_end s t run) i })
  | no e ↦
      let l = earlier s t run at (omega (arith, no_later s t run at h)) in
      run_token_from s t run n (past dark s (past white s at)) (after at r) l.1 (omega (arith, past_from white s at))
]

-- so every maximal run is one of the tokens that reading comes to
pub run_token : (s : List ℕ) (t : Token) → Run s t → (at : ℕ) × Reached s at × (token_at s at ≡ t)
run_token s t run = run_token_from s t run t.start 0 begin (omega arith) (omega arith)

ends : (s : List ℕ) (at : ℕ) → (at ≤ (token_at s at).start) × ((token_at s at).start ≤ (token_at s at).end)
unfolding token_at
ends s at = (past_from white s at, past_from dark s (past white s at))

-- of two positions that reading comes to, one is not before the end of the other's token: the tokens are come to in the order of the text
abbrev Apart : List ℕ → ℕ → ℕ → Type 0
Apart s p q = (p ≡ q) ⊎ (((token_at s p).end ≤ q) ⊎ ((token_at s q).end ≤ p))

-- p and q after a token each, as they stand to the positions before
apart_after : (s : List ℕ) (p q : ℕ) → Apart s (token_at s p).end q → Apart s p (token_at s q).end → Apart s (token_at s p).end (token_at s q).end
apart_after s p q (inl e) h = inr (inl (rw e (omega arith)))
apart_after s p q (inr (inl l)) h = inr (inl (omega (arith, ends s q)))
apart_after s p q (inr (inr l)) (inl e) = inr (inr (rw e (omega arith)))
apart_after s p q (inr (inr l)) (inr (inl m)) = inl (omega arith)
apart_after s p q (inr (inr l)) (inr (inr m)) = inr (inr (omega (arith, ends s p)))

swapped : (s : List ℕ) (p q : ℕ) → Apart s p q → Apart s q p
swapped s p q (inl e) = inl (sym e)
swapped s p q (inr (inl l)) = inr (inr l)
swapped s p q (inr (inr l)) = inr (inl l)

-- the start, and a position after a token
apart-start : (s : List ℕ) (q : ℕ) → Apart s 0 q → Apart s 0 (token_at s q).end
apart-start s q (inl e) = inr (inl (rw (← e) (omega arith)))
apart-start s q (inr (inl l)) = inr (inl (omega (arith, ends s q)))
apart-start s q (inr (inr l)) = inl (omega arith)

from_start : (s : List ℕ) (q : ℕ) → Reached s q → Apart s 0 q
from_start s q begin = inl refl
from_start s q (after before u) = apart-start s before (from_start s before u)

in_order : (s : List ℕ) (p q : ℕ) → Reached s p → Reached s q → Apart s p q
in_order s p q begin u = from_start s q u
in_order s p q (after before t) u = go (λ r v. in_order s before r t v) q u
  where
    go : ((q : ℕ) → Reached s q → Apart s before q) → (q : ℕ) → Reached s q → Apart s (token_at s before).end q
    go ih q begin = swapped s 0 (token_at s before).end (from_start s (token_at s before).end (after before t))
    go ih q (after last v) = apart_after s before last (go ih last v) (ih (token_at s last).end (after last v))

-- no token is come to twice
pub token_once : (s : List ℕ) (p q : ℕ) → Reached s p → Reached s q → (token_at s p).start < (token_at s p).end → token_at s p ≡ token_at s q → p ≡ q
token_once s p q t u some e =
    let start : (token_at s p).start ≡ (token_at s q).start = ap (λ (x : Token). x.start) e in
    let end : (token_at s p).end ≡ (token_at s q).end = ap (λ (x : Token). x.end) e in
    ⊎_elim (λ same. same) (λ h. absurd (⊎_elim (λ l. omega (arith, ends s q)) (λ l. omega (arith, ends s p)) h)) (in_order s p q t u)

-- Laws of `domains`, one turn at a time. Assumes nothing.
use Rattle.std.specs.Prelude.{Result, Ok, Err}
use Rattle.std.proofs.Common.{ℕ, zero, suc, ◌+◌, ◌*◌, ◌≤◌, ◌<◌, max, ◌≡◌, refl, sym, ap, ◌∙◌, List, get_or, set, replicate, length-set, get_or-set_same, get_or-set_other, arith}
use native.Mathlib.Decide.{ℕ_discrete}
use Rattle.costs.specs.Limits.{vars_most, size_most}
use Rattle.costs.specs.Range.{sum_to}
use Rattle.costs.proofs.RangeLaws.{sum_to_next, sum_to-same}
use Rattle.answers.specs.declared.Refusal.{Refusal}
use Rattle.tokens.specs.Tokens.{Text}
use Rattle.tokens.specs.Steps.{got, refused, and_then, demand}
use Rattle.tokens.specs.Ties.Outcomes.{num_is}
use Rattle.tokens.specs.declared.numbers.Seen.{Seen}
use Rattle.tokens.proofs.StepLaws.{and_then_lem, demanded, same-value}
use Rattle.tokens.proofs.NumberLaws.{in_range}
use Rattle.headings.specs.Domains.{Sized, size, domains}
use Rattle.headings.specs.Ties.Outcomes.{domains_is}
use Rattle.headings.specs.Ties.Ranges.{Good}
use Rattle.headings.specs.declared.domains.Unary.{Unary}

module _ (greatest left m v largest entries : ℕ) (sizes : List ℕ) (text : Text) (at : ℕ) (e : left ≡ suc m) (r : Result Seen Refusal)
    (h : num_is r ≡ size greatest m largest entries text at) where
  pub domains_stop : (refusal : Refusal) → r ≡ Err refusal → domains greatest left v largest entries sizes text at ≡ refused refusal
  unfolding domains and_then demand
  domains_stop refusal f = rw (e, ← h, f)

  pub domains_more : (d : Seen) (now : ℕ) → r ≡ Ok d → now ≡ max largest d.value
      → domains greatest left v largest entries sizes text at ≡ domains greatest m (v + 1) now (entries + d.value) (set sizes v d.value) text d.next
  unfolding domains and_then demand
  domains_more d now f n = rw (e, ← h, f, n)

pub domains_end : (greatest left v largest entries : ℕ) (sizes : List ℕ) (text : Text) (at : ℕ) → left ≡ 0
    → domains greatest left v largest entries sizes text at ≡ got (record { entries = entries; sizes = sizes }) at
unfolding domains and_then demand
domains_end greatest left v largest entries sizes text at e = rw e

-- a size that was read is in its range
pub size-range : (greatest left largest entries : ℕ) (text : Text) (at : ℕ) (d : Seen) (next : ℕ) → got d next ≡ size greatest left largest entries text at
    → (1 ≤ d.value) × (d.value ≤ size_most)
unfolding size
size-range greatest left largest entries text at d next e =
    let s = and_then_lem _ _ _ _ e in
    let p = demanded _ _ _ _ _ _ _ s.3 in
    let q = demanded _ _ _ _ _ _ _ p.1 in
    let r : d ≡ s.0 = same-value _ _ _ _ q.1 in
    rw r (in_range _ _ _ _ _ _ (sym s.2))

pub size_read : (greatest left largest entries : ℕ) (text : Text) (at : ℕ) (r : Result Seen Refusal) → num_is r ≡ size greatest left largest entries text at → (d : Seen) → r ≡ Ok d
    → (1 ≤ d.value) × (d.value ≤ size_most)
size_read greatest left largest entries text at r h d f =
    let e : got d d.next ≡ size greatest left largest entries text at = rw (← h, f) in
    size-range greatest left largest entries text at d d.next e

set_good : (v d entries : ℕ) (sizes : List ℕ) → v < vars_most → 1 ≤ d → d ≤ size_most → Good v (record { entries = entries; sizes = sizes })
    → Good (v + 1) (record { entries = entries + d; sizes = set sizes v d })
set_good v d entries sizes h l m g = record {
  long = simp length-set g.long;
  some = λ w k. elim (ℕ_discrete w v) [
    | yes q ↦ rw (q, get_or-set_same sizes v d 0 (omega (arith, g.long))) l
    | no q ↦ rw (get_or-set_other sizes v w d 0 q) (g.some w (omega arith))
  ];
  most = λ w. elim (ℕ_discrete w v) [
    | yes q ↦ rw (q, get_or-set_same sizes v d 0 (omega (arith, g.long))) m
    | no q ↦ rw (get_or-set_other sizes v w d 0 q) (g.most w)
  ];
  summed = rw (sum_to_next, get_or-set_same sizes v d 0 (omega (arith, g.long)))
      (ap (λ (n : ℕ). n + d) (g.summed ∙ sym (sum_to-same v (λ w. get_or sizes w 0) (λ w. get_or (set sizes v d) w 0) (λ w k. get_or-set_other sizes v w d 0 (λ q. apart w v k q)))));
}
  where
    apart : (w v : ℕ) → w < v → w ≡ v → ⊥
    apart w v k q = omega arith

pub domains_good : (greatest left v largest entries : ℕ) (sizes : List ℕ) (text : Text) (at : ℕ) (z : Sized) (next : ℕ)
    → got z next ≡ domains greatest left v largest entries sizes text at → v + left ≤ vars_most → Good v (record { entries = entries; sizes = sizes }) → Good (v + left) z
unfolding domains
domains_good greatest zero v largest entries sizes text at z next e h g =
    let q : z ≡ record { entries = entries; sizes = sizes } = same-value _ _ _ _ e in
    let n : v + 0 ≡ v = omega arith in
    rw (q, n) g
domains_good greatest (suc left) v largest entries sizes text at z next e h g =
    let s = and_then_lem _ _ _ _ e in
    let r = size-range greatest left largest entries text at s.0 s.1 (sym s.2) in
    let n : v + suc left ≡ v + 1 + left = omega arith in
    rw n (domains_good greatest left (v + 1) _ _ _ text s.1 z next s.3 (omega arith) (set_good v s.0.value entries sizes (omega arith) r.0 r.1 g))

-- none yet
pub none_good : Good 0 (record { entries = 0; sizes = replicate vars_most 0 })
none_good = record { long = refl; some = λ w l. absurd (omega arith); most = zeros vars_most; summed = refl }
  where
    zeros : (n w : ℕ) → get_or (replicate n 0) w 0 ≤ size_most
    zeros zero w = omega arith
    zeros (suc n) zero = omega arith
    zeros (suc n) (suc w) = zeros n w

-- all of them
pub domains_read : (greatest vars : ℕ) (text : Text) (at : ℕ) (r : Result Unary Refusal) (sizes : List ℕ) → domains_is r sizes ≡ domains greatest vars 0 0 0 (replicate vars_most 0) text at
    → vars ≤ vars_most → (unary : Unary) → r ≡ Ok unary → Good vars (record { entries = unary.entries; sizes = sizes })
domains_read greatest vars text at r sizes h l unary f =
    let e : got (record { entries = unary.entries; sizes = sizes }) unary.next ≡ domains greatest vars 0 0 0 (replicate vars_most 0) text at = rw (← h, f) in
    let n : 0 + vars ≡ vars = omega arith in
    let g = domains_good greatest vars 0 0 0 (replicate vars_most 0) text at _ _ e (omega arith) none_good in
    rw n at g

-- few sizes have a small total
pub total_most : (n : ℕ) (g : ℕ → ℕ) → ((w : ℕ) → g w ≤ size_most) → sum_to n g ≤ n * size_most
total_most zero g h = omega arith
total_most (suc n) g h = omega (arith, total_most n g h, h n)

use Rattle.spelling.proofs.SteppingLaws.{refused_for, stands-root, stands_after, stands_unspelt, stands_refused, stands_next, stands_closed, stands_open}
use Rattle.spelling.specs.Ties.Stepping.{claim_in}
use Rattle.records.specs.Steps.{step_words, step_at}
use Rattle.records.specs.Words.{word_at}
use Rattle.std.specs.Result.{result_ok}
use Rattle.std.proofs.Common.{None, ◌≡◌, ◌+◌, ◌-◌, ◌*◌, refl, sym, ap, ◌∙◌, arith, rules}
use Rattle.spelling.proofs.steps.steps_fault.Goals as goal

pub loop-step-init : goal.loop-step-init
loop-step-init c = let s = c.args in
    let judged = s.claimed.judged.now in
    let first : s.from + 0 ≡ s.from = omega arith in
    let whole : s.steps - 0 ≡ s.steps = omega arith in
    record {
      roomy = refl;
      stands = rw (c.root-place.ensures, first, whole) (stands-root (claim_in s.claimed) (step_at (word_at s.bytes.now)) s.steps s.from judged.network.now.constant s.work.now refl (λ j l. sym (c.requires.by_index j (omega (arith, judged.whole, judged.ready.entries_is)))));
    }

pub returns-then-place : goal.returns-then-place
returns-then-place c = stands_after _ _ _ _ _ _ _ c.loop-step.invariant.stands (omega arith) c.if-place.true

pub returns-in_err-one : goal.returns-in_err-one
returns-in_err-one c = let s = c.args in
    let none : c.step_at.result ≡ None = c.ok_or.ensures.ok_part ∙ ap result_ok c.in_err-one.was in
    refused_for none c.ok_or.ensures.value c.in_err-one.was (search rules) ∙ stands_unspelt _ _ _ _ _ _ _ c.loop-step.invariant.stands (omega arith) c.if-place.false (sym c.step_at.ensures ∙ none)

pub returns-in_err-place : goal.returns-in_err-place
returns-in_err-place c = let s = c.args in
    let k = c.loop-step in
    let h = k.invariant.stands in
    let none : c.take_step.result ≡ None = c.ok_or-in-loop-step.ensures.ok_part ∙ ap result_ok c.in_err-place.was in
    refused_for none c.ok_or-in-loop-step.ensures.value c.in_err-place.was (search rules) ∙ stands_refused _ _ _ _ _ _ _ h (omega arith) c.if-place.false c.in_ok-one.one (sym c.step_at.ensures ∙ c.in_ok-one.ensures.ok_part) c.take_step.new.work (rw none at (c.take_step.ensures h.costs h.follows))

pub loop-step-preserved : goal.loop-step-preserved
loop-step-preserved c = let s = c.args in
    let k = c.loop-step in
    let h = k.invariant.stands in
    let left : s.steps - (k.step + 1) ≡ s.steps - k.step - 1 = omega arith in
    let w : s.from + step_words * (k.step + 1) ≡ s.from + step_words * k.step + step_words = omega arith in
    record {
      roomy = omega (arith, k.invariant.roomy, c.take_step.auto.work);
      stands = rw (left, w) (stands_next _ _ _ _ _ _ _ h (omega arith) c.if-place.false c.in_ok-one.one (sym c.step_at.ensures ∙ c.in_ok-one.ensures.ok_part) c.take_step.new.work _ (rw c.in_ok-place.ensures.ok_part at (c.take_step.ensures h.costs h.follows)));
    }

pub returns-then-place-2 : goal.returns-then-place-2
returns-then-place-2 c = let s = c.args in
    let k = c.loop-step in
    let e : s.steps - k.step ≡ 0 = omega arith in
    stands_closed _ _ _ _ _ _ (rw e at k.invariant.stands) c.if-place-2.true

pub returns-else-place-2 : goal.returns-else-place-2
returns-else-place-2 c = let s = c.args in
    let k = c.loop-step in
    let e : s.steps - k.step ≡ 0 = omega arith in
    let q : k.step ≡ s.steps = omega arith in
    stands_open _ _ _ _ _ _ (rw (e, q) at k.invariant.stands) c.if-place-2.false

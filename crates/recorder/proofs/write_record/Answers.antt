use Rattle.std.proofs.Common.{arith}
use Rattle.recorder.specs.Ties.Splicing.{verdict_bit, values_of, TooLong, HoldsSteps}
use Rattle.recorder.proofs.SpliceLaws.{values_size, finished_over, finished_whole}
use Rattle.recorder.proofs.write_record.Goals as goal

pub returns-in_default : goal.returns-in_default
returns-in_default c = λ steps w.
    let s = c.args in
    let over : TooLong s.out.now steps = rw c.in_default.is at w in
    finished_over s.vars (verdict_bit s.found) s.cost (values_of s.vars s.found s.plan.now) steps _ s.out.now (omega (arith, over)) c.clear_from.ensures

pub returns-then-out-at : goal.returns-then-out-at
returns-then-out-at c = λ steps w.
    let s = c.args in
    let kept : HoldsSteps s.out.now c.in-Some.at steps = rw c.in-Some.is at w in
    finished_over s.vars (verdict_bit s.found) s.cost (values_of s.vars s.found s.plan.now) steps _ s.out.now (omega (arith, kept.place, kept.fits, values_size s.vars s.found s.plan.now, c.value_count-count.ensures)) c.clear_from-then-out-at.ensures

pub returns : goal.returns
returns c = λ steps w.
    let s = c.args in
    let kept : HoldsSteps s.out.now c.in-Some.at steps = rw c.in-Some.is at w in
    finished_whole s.vars s.found s.cost s.plan.now steps c.in-Some.at c.value_count-count.result _ _ _ _ s.out.now kept c.value_count-count.ensures (omega (arith, kept.fits))
    c.copy_within.ensures.after (rw c.header_of.ensures at c.put_words.ensures) c.put_values.ensures c.clear_from-2.ensures

use Rattle.spelling.proofs.SteppingLaws.{took_branch, took_shift, took_close}
use Rattle.spelling.specs.Ties.Stepping.{claim_in}
use Rattle.std.proofs.Common.{◌∙◌, arith}
use Rattle.spelling.proofs.steps.take_step.Goals as goal

pub returns-in-Branch : goal.returns-in-Branch
returns-in-Branch c = let s = c.args in
    λ o f. rw c.in-Branch.is (took_branch (claim_in s.claimed) o s.place s.work.now f _ _ c.branch_step.ensures.allowed c.branch_step.ensures.leads)

pub returns-in-Shift : goal.returns-in-Shift
returns-in-Shift c = let s = c.args in
    λ o f. rw c.in-Shift.is (took_shift (claim_in s.claimed) o s.place s.work.now f (omega arith) c.requires.upright.1 c.requires.upright.0 _ _ _ c.shift_step.ensures)

pub returns-in-Close : goal.returns-in-Close
returns-in-Close c = let s = c.args in
    let judged = s.claimed.judged.now in
    λ o f. rw c.in-Close.is (took_close (claim_in s.claimed) o s.place s.work.now f _ _ _ (judged.whole ∙ judged.ready.entries_is) c.close_step.ensures.allowed c.close_step.ensures.leads)

use Rattle.judging.proofs.JudgeLaws.{judged_room}
use Rattle.desk.proofs.RecordLaws.{answered_by, checked_refused, checked_record}
use Rattle.std.proofs.Common.{◌≡◌, ◌∙◌, length, min, arith}
use Rattle.desk.proofs.checking.answered.Goals as goal

pub returns-in_err-judged : goal.returns-in_err-judged
returns-in_err-judged c = let s = c.args in
    let least : c.min.result ≡ min (length s.held.now) (length s.work.now) = c.min.ensures in
    checked_refused s.net.now s.held.now (length s.work.now) s.bytes.now _ c.from_residual.result c.from_residual.ensures.1 (rw least at c.in_err-judged.ensures.value)

pub bytes_fault-requires : goal.bytes_fault-requires
bytes_fault-requires c = let room = judged_room _ _ _ c.in_ok-judged.judged c.in_ok-judged.ensures.value in
    record { working = omega (arith, room, c.min.ensures); holding = omega (arith, room, c.min.ensures) }

pub returns : goal.returns
returns c = let s = c.args in
    let least : c.min.result ≡ min (length s.held.now) (length s.work.now) = c.min.ensures in
    answered_by c.bytes_fault.result c.map_err.result _ (λ w x h. h) c.map_err.ensures.cases
    ∙ checked_record s.net.now s.held.now (length s.work.now) s.bytes.now _ c.bytes_fault.result (rw least at c.in_ok-judged.ensures.value) (rw c.in_ok-judged.ensures.network at c.bytes_fault.ensures)

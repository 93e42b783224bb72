use Rattle.costs.specs.Net.{costs_of}
use Rattle.costs.specs.Networks.{outline_of, stands}
use Rattle.costs.proofs.RowLaws.{scoped_sound}
use Rattle.engines.proofs.TellingLaws.{zeros_all, tells_unrecorded, tells_recorded}
use Rattle.engines.proofs.telling.tell.Goals as goal
use Rattle.engines.proofs.telling.tell.Goals.{then-not-task, else-not-task+else-not-write_record}

pub returns : goal.returns
returns c = λ st m right.
    let s = c.args in
    let net = s.task.judged.now.network.now in
    let good = scoped_sound (outline_of net) net.sizes net.scopes s.task.judged.now.ready.scoped in
    let cost = c.cost_of-cost in
    elim c.if-not-task.branch [
      | then-not-task w ↦ rw w.out-is (tells_unrecorded (stands net) s.task.asked st s.done s.plan.now s.out.now m good (costs_of net.constant s.task.held.now) right c.if-done.false _ (cc) cost.result cost.ensures c.finished.result _ c.finished.ensures w.if-not-task.true (zeros_all s.out.now _ w.clear_from-then-not-task.ensures))
      | else-not-task+else-not-write_record w ↦ rw w.out-is (tells_recorded (stands net) s.task.asked st s.done s.plan.now s.out.now m good (costs_of net.constant s.task.held.now) right c.if-done.false _ (cc) cost.result cost.ensures w.if-not-task.false _ _ (w.write_record.ensures _ (m.written w.if-not-task.false)) c.finished.result c.finished.ensures w.if-not-write_record.false)
    ]

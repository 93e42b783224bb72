use Rattle.std.proofs.Common.{arith}
use Rattle.visiting.proofs.VisitLaws.{looks_closed, looks_found, looks_opened}
use Rattle.visiting.proofs.look.Goals as goal

pub returns-then-from-bound : goal.returns-then-from-bound
returns-then-from-bound c = let s = c.args in
    let h = c.requires.enters in
    let b = c.bound_at-bound in
    (h.plan_long, looks_closed s.task.judged.now.network.now s.task.held.now s.node.now s.task.asked s.depth h.fixes h.within s.from s.plan.now s.out.now b.new.notes b.result b.ensures.told c.closed.result c.closed.new.out (omega (arith, c.if-from-bound.true)) c.closed.ensures)

pub returns-then-depth-task : goal.returns-then-depth-task
returns-then-depth-task c = let s = c.args in
    let h = c.requires.enters in
    let b = c.bound_at-bound in
    let r = c.found-progress in
    (r.ensures.0, looks_found s.task.judged.now.network.now s.task.held.now s.node.now s.task.asked s.depth h.fixes h.within s.from s.plan.now s.out.now b.new.notes b.result b.ensures.told r.result r.new.plan r.new.out (omega (arith, c.if-from-bound.false)) c.if-depth-task.true r.ensures.1)

pub returns : goal.returns
returns c = let s = c.args in
    let h = c.requires.enters in
    let b = c.bound_at-bound in
    (h.plan_long, looks_opened s.task.judged.now.network.now s.task.held.now s.node.now s.task.asked s.depth h.fixes h.within s.from s.plan.now s.out.now b.new.notes b.result b.ensures.told c.opened.result c.opened.new.out (omega (arith, c.if-from-bound.false)) (omega (arith, h.within, c.if-depth-task.false)) c.opened.ensures)

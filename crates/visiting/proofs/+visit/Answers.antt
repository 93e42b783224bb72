use Rattle.std.proofs.Common.{◌≡◌, refl, ◌∙◌, arith, get_or}
use Rattle.std.proofs.lemmas.Bool.{not-true, not-false}
use Rattle.visiting.proofs.VisitLaws.{visits_over, visits_shut, visits_closed, visits_opened, through_more, fixed_again, released}
use Rattle.visiting.proofs.+visit.Goals as goal

pub returns-then-from : goal.returns-then-from
returns-then-from t c = let s = c.args in (refl, c.requires.plan_long, visits_over s.task.judged.now.network.now s.task.held.now s.node.now s.task.asked s.depth s.task.budget s.from s.plan.now s.out.now c.if-from.true)

pub returns-then-task-from : goal.returns-then-task-from
returns-then-task-from t c = let s = c.args in
    (refl, c.requires.plan_long, visits_shut s.task.judged.now.network.now s.task.held.now s.node.now s.task.asked s.depth s.task.budget s.from s.plan.now s.out.now c.ended.result c.if-from.false (omega (arith, c.if-task-from.true)) c.ended.ensures)

pub returns-then-not-seen : goal.returns-then-not-seen
returns-then-not-seen t c = let s = c.args in
    let l = c.look-seen in
    (refl, l.ensures.0, visits_closed s.task.judged.now.network.now s.task.held.now s.node.now s.task.asked s.depth s.task.budget s.from s.plan.now s.out.now c.if-from.false (omega (arith, c.if-task-from.false)) l.result l.new.plan l.new.out l.ensures.1 (not-true _ c.if-not-seen.true))

pub loop-a-preserved : goal.loop-a-preserved
loop-a-preserved t c = let s = c.args in
    let l = c.look-seen in
    let k = c.loop-a in
    let r = c.visit-next in
    let is = fixed_again s.node.now k.node c.fix.new.node s.depth k.a k.invariant.1 c.fix.ensures in
    (r.ensures.1, r.ensures.0 ∙ is, through_more s.task.judged.now.network.now s.task.held.now s.node.now s.task.asked s.task.budget s.depth l.result.progress l.new.plan l.new.out k.a k.next r.result k.plan k.out r.new.plan r.new.out k.invariant.2 (rw is at r.ensures.2))

pub returns : goal.returns
returns t c = let s = c.args in
    let h = c.requires in
    let l = c.look-seen in
    let k = c.loop-a in
    let unfinished = l.ensures.1.unfinished (not-false _ c.if-not-seen.false) in
    let all : k.a ≡ get_or s.task.judged.now.network.now.sizes s.depth 0 = omega (arith, c.size-size.ensures, c.loop-a-test.false) in (
      released s.node.now k.node c.release.new.node s.depth k.a (h.fixes.free s.depth (omega arith)) k.invariant.1 c.release.ensures,
      k.invariant.0,
      visits_opened s.task.judged.now.network.now s.task.held.now s.node.now s.task.asked s.depth s.task.budget s.from s.plan.now s.out.now c.if-from.false (omega (arith, c.if-task-from.false)) l.result l.new.plan l.new.out l.ensures.1 (not-false _ c.if-not-seen.false) (omega (arith, unfinished, h.node_long, s.task.judged.now.ready.scoped.vars_few)) k.a k.next k.plan k.out all k.invariant.2,
    )

use Rattle.shifts.specs.Ties.Sites.{net_at, lives}
use Rattle.passes.specs.Passing.{at_value}
use Rattle.passes.proofs.TurnLaws.{turns_next, values_none, values_all}
use Rattle.passes.proofs.passing.project_values.Goals as goal

pub loop-a-init : goal.loop-a-init
loop-a-init c = let s = c.args in values_none s.site s.f s.i _ c.span-x.ensures s.table.now

pub loop-a-preserved : goal.loop-a-preserved
loop-a-preserved c =
    let s = c.args in
    turns_next (at_value (net_at s.site) (lives s.site) s.f s.i) c.loop-a.a s.table.now c.loop-a.table c.project_least.new.table c.loop-a.invariant c.project_least.ensures.turns

pub returns : goal.returns
returns c =
    let s = c.args in
    values_all s.site s.f s.i _ c.span-x.ensures c.requires.known.1 c.loop-a.a c.loop-a.auto.a-end c.loop-a-test.false s.table.now c.loop-a.table c.loop-a.invariant

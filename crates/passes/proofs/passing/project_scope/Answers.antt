use Rattle.shifts.specs.Ties.Sites.{net_at, lives}
use Rattle.passes.proofs.TurnLaws.{midway_at, scope_turns}
use Rattle.passes.proofs.passing.project_scope.Goals as goal

pub loop-i-preserved : goal.loop-i-preserved
loop-i-preserved c =
    let s = c.args in
    midway_at (net_at s.site) (lives s.site) s.f c.scope-i-items.result.now c.loop-i.i-index c.loop-i-test.true s.table.now c.loop-i.table c.project_values.new.table c.loop-i.invariant
    (rw c.from.ensures at c.project_values.ensures)

pub returns : goal.returns
returns c =
    let s = c.args in
    scope_turns s.site s.f _ c.scope-i-items.ensures c.loop-i.i-index c.loop-i-test.false s.table.now c.loop-i.table c.loop-i.invariant

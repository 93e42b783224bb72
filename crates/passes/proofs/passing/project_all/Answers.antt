use Rattle.std.proofs.Common.{◌+◌, ◌≡◌, arith}
use Rattle.shifts.specs.Ties.Sites.{net_at, lives}
use Rattle.passes.specs.Passing.{at_scope}
use Rattle.passes.proofs.TurnLaws.{turns_next, scope_carries, projections_all}
use Rattle.passes.proofs.passing.project_all.Goals as goal

pub loop-f-preserved : goal.loop-f-preserved
loop-f-preserved c =
    let s = c.args in
    let n = net_at s.site in
    turns_next (λ f. at_scope n (lives s.site) f (n.scope (n.vars + f))) c.loop-f.f s.table.now c.loop-f.table c.project_scope.new.table c.loop-f.invariant
    (scope_carries s.site c.loop-f.f c.loop-f.table c.project_scope.new.table c.project_scope.ensures)

pub returns : goal.returns
returns c =
    let s = c.args in
    let e : c.loop-f.f ≡ s.site.judged.now.network.now.functions = omega (arith, c.loop-f.auto.f-end) in
    projections_all s.site s.table.now c.loop-f.table (rw e at c.loop-f.invariant)

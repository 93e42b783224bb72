use Rattle.std.proofs.Common.{◌+◌, ◌≡◌, arith}
use Rattle.shifts.specs.Ties.Sites.{net_at, lives}
use Rattle.passes.specs.Passing.{at_scope}
use Rattle.bounds.proofs.NotingLaws.{leads_next, projections_all, scope_leads}
use Rattle.bounds.proofs.noting.note_projections.Goals as goal

pub loop-f-preserved : goal.loop-f-preserved
loop-f-preserved c = let s = c.args in
    let n = net_at s.site in
    let k = c.loop-f in
    let next = c.note_scope-count in (
      omega (arith, k.invariant.0, next.ensures.0),
      leads_next (λ f. at_scope n (lives s.site) f (n.scope (n.vars + f))) k.f 0 k.count next.result s.table.now k.table next.new.table s.notes.now k.notes next.new.notes k.invariant.1
          (scope_leads s.site k.f k.count next.result k.table next.new.table k.notes next.new.notes next.ensures.1),
    )

pub returns : goal.returns
returns c = let s = c.args in
    let k = c.loop-f in
    let e : k.f ≡ s.site.judged.now.network.now.functions = omega (arith, k.auto.f-end) in
    (rw (← e) k.invariant.0, projections_all s.site k.count s.table.now k.table s.notes.now k.notes (rw e at k.invariant.1))

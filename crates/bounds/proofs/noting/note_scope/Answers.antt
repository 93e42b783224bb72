use Rattle.std.proofs.Common.{arith}
use Rattle.shifts.specs.Ties.Sites.{net_at, lives}
use Rattle.bounds.proofs.NotingLaws.{midway_at, scope_short, scope_done}
use Rattle.bounds.proofs.noting.note_scope.Goals as goal

pub loop-i-preserved : goal.loop-i-preserved
loop-i-preserved c = let s = c.args in
    let k = c.loop-i in
    let next = c.note_values-count in (
      omega (arith, k.invariant.0, next.ensures.0),
      midway_at (net_at s.site) (lives s.site) s.f c.scope-i-items.result.now k.i-index c.loop-i-test.true s.before k.count next.result s.table.now k.table next.new.table s.notes.now k.notes next.new.notes
          k.invariant.1 (rw c.from.ensures at next.ensures.1),
    )

pub returns : goal.returns
returns c = let s = c.args in
    let k = c.loop-i in
    let lf = c.requires.known.0 in (
      omega (arith, k.invariant.0, k.auto.i-index-end, scope_short s.site s.f lf _ c.scope-i-items.ensures),
      scope_done s.site s.f lf _ c.scope-i-items.ensures k.i-index c.loop-i-test.false s.before k.count s.table.now k.table s.notes.now k.notes k.invariant.1,
    )

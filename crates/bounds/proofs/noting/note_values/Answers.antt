use Rattle.std.proofs.Common.{arith}
use Rattle.shifts.specs.Ties.Sites.{net_at, lives}
use Rattle.passes.specs.Passing.{at_value}
use Rattle.bounds.proofs.NotingLaws.{leads_next, values_none, values_all, values_few}
use Rattle.bounds.proofs.noting.note_values.Goals as goal

pub loop-a-init : goal.loop-a-init
loop-a-init c = let s = c.args in (omega arith, values_none s.site s.f s.i _ c.span-x.ensures s.before s.table.now s.notes.now)

pub loop-a-preserved : goal.loop-a-preserved
loop-a-preserved c = let s = c.args in
    let k = c.loop-a in
    let next = c.note_value-count in (
      omega (arith, k.invariant.0, next.ensures.0),
      leads_next (at_value (net_at s.site) (lives s.site) s.f s.i) k.a s.before k.count next.result s.table.now k.table next.new.table s.notes.now k.notes next.new.notes k.invariant.1 next.ensures.1,
    )

pub returns : goal.returns
returns c = let s = c.args in
    let k = c.loop-a in
    let li = c.requires.known.1 in (
      omega (arith, k.invariant.0, values_few s.site s.f s.i _ c.span-x.ensures li k.a k.auto.a-end),
      values_all s.site s.f s.i _ c.span-x.ensures li k.a k.auto.a-end c.loop-a-test.false s.before k.count s.table.now k.table s.notes.now k.notes k.invariant.1,
    )

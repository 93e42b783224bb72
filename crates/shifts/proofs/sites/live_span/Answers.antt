use Rattle.shifts.proofs.PartLaws.{span_free, span_fixed}
use Rattle.shifts.proofs.sites.live_span.Goals as goal

pub returns-then-to-eq0 : goal.returns-then-to-eq0
returns-then-to-eq0 c =
    let x = c.from-to.ensures in
    let d = c.from-size.ensures in
    rw (← d, ← x) (span_free _ _ c.if-to-eq0.true)

pub returns : goal.returns
returns c =
    let x = c.from-to.ensures in
    let d = c.from-size.ensures in
    rw (← d, ← x) (span_fixed _ _ c.if-to-eq0.false)

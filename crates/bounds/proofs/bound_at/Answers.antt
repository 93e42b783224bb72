use Rattle.std.proofs.Common.{arith}
use Rattle.bounds.proofs.BoundLaws.{whole_noted, whole_unnoted}
use Rattle.bounds.proofs.bound_at.Goals as goal

pub returns-then-asked : goal.returns-then-asked
returns-then-asked c =
    let s = c.args in
    let r = c.pass_noting in
    whole_noted s.site s.held.now s.work.now c.copy_in.new.table c.requires.roomy.1 c.copy_in.ensures s.asked r.result r.new.table r.new.notes r.ensures.0 (omega (arith, r.auto.notes, c.requires.notes_room c.if-asked.true)) r.ensures.1 r.ensures.2

pub returns : goal.returns
returns c =
    let s = c.args in
    let r = c.pass_over in
    whole_unnoted s.site s.held.now s.work.now c.copy_in.new.table c.requires.roomy.1 c.copy_in.ensures s.asked r.result r.new.table s.notes.now c.if-asked.false r.ensures

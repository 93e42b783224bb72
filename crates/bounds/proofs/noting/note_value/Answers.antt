use Rattle.std.proofs.Common.{arith}
use Rattle.shifts.specs.Ties.Sites.{net_at, lives}
use Rattle.bounds.proofs.NotingLaws.{value_leads_none, value_leads_one}
use Rattle.bounds.proofs.noting.note_value.Goals as goal

pub returns-then-amount-eq0 : goal.returns-then-amount-eq0
returns-then-amount-eq0 c = let s = c.args in
    let least = c.project_least-amount in
    (omega arith, value_leads_none (net_at s.site) (lives s.site) s.f s.i s.a _ s.before s.table.now least.new.table s.notes.now c.requires.known.3 c.if-amount-eq0.true least.ensures.value least.ensures.turns)

pub returns : goal.returns
returns c = let s = c.args in
    let least = c.project_least-amount in
    (omega arith, value_leads_one (net_at s.site) (lives s.site) s.f s.i s.a _ s.before s.table.now least.new.table s.notes.now c.note.new.notes c.requires.known.3 c.if-amount-eq0.false least.ensures.value least.ensures.turns c.note.ensures)

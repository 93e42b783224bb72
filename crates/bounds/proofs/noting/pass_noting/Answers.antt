use Rattle.std.proofs.Common.{sym}
use Rattle.shifts.specs.Ties.Sites.{net_at, lives}
use Rattle.bounds.proofs.NotingLaws.{pass_stands}
use Rattle.bounds.proofs.noting.pass_noting.Goals as goal

pub returns : goal.returns
returns c = let s = c.args in
    let p = c.note_projections-count in
    let r = c.note_raises in
    let done = pass_stands (net_at s.site) (lives s.site) s.site.judged.now.network.now.constant r.result.constant p.result r.result.count s.table.now p.new.table r.new.table s.notes.now p.new.notes r.new.notes p.ensures.1 r.ensures.1 in
    (r.ensures.0, sym done.costs, sym done.shifts)

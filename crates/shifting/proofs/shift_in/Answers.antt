use Rattle.shifting.proofs.ShiftLaws.{judge_refused, node_refused, site_roomy, tried_there}
use Rattle.shifting.proofs.shift_in.Goals as goal

pub returns-in_err-judged : goal.returns-in_err-judged
returns-in_err-judged c = judge_refused _ _ _ _ _ _ c.from_residual.ensures.1 c.in_err-judged.ensures.value

pub returns-in_err-site : goal.returns-in_err-site
returns-in_err-site c =
    let s = c.args in
    let bad = c.in_err-site.ensures.err in
    node_refused s.net.now s.table.now s.node.now s.one c.in_ok-judged.judged c.in_ok-judged.ensures.network c.in_ok-judged.ensures.value _ _ c.from_residual-in_err-site.ensures.1 bad.0 bad.1

pub try_shift-requires : goal.try_shift-requires
try_shift-requires c =
    let s = c.args in
    site_roomy s.net.now s.table.now s.node.now s.one c.in_ok-judged.judged c.in_ok-judged.ensures.network c.in_ok-judged.ensures.value c.in_ok-site.site c.in_ok-site.ensures.ok.0

pub returns : goal.returns
returns c =
    let s = c.args in
    let site = c.in_ok-site.ensures.ok in
    tried_there s.net.now s.table.now s.node.now s.one c.in_ok-judged.judged c.in_ok-judged.ensures.network c.in_ok-judged.ensures.value c.in_ok-site.site site.0 site.1 site.2 _ c.try_shift.new.table c.try_shift.ensures

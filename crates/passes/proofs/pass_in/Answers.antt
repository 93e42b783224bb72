use Rattle.std.proofs.Common.{arith}
use Rattle.passes.proofs.DoorLaws.{judge_refused, node_refused, entries_roomy, site_roomy, passed_there}
use Rattle.passes.proofs.pass_in.Goals as goal

pub returns-in_err-judged-clause-err : goal.returns-in_err-judged-clause-err
returns-in_err-judged-clause-err c = let s = c.args in
    judge_refused s.net.now s.held.now s.work.now s.node.now _ c.min.ensures _ _ c.from_residual.ensures.1 c.in_err-judged.ensures.value

pub returns-in_err-site-clause-err : goal.returns-in_err-site-clause-err
returns-in_err-site-clause-err c = let s = c.args in
    let bad = c.in_err-site.ensures.err in
    node_refused s.net.now s.held.now s.work.now s.node.now _ c.min.ensures c.in_ok-judged.judged c.in_ok-judged.ensures.network c.in_ok-judged.ensures.value _ _ c.from_residual-in_err-site.ensures.1 bad.0 bad.1

pub copy_in-requires : goal.copy_in-requires
copy_in-requires c = let s = c.args in
    let passed = c.in_ok-judged in
    entries_roomy s.net.now s.held.now s.work.now s.node.now _ c.min.ensures passed.judged passed.ensures.network passed.ensures.value

pub pass_over-requires : goal.pass_over-requires
pass_over-requires c = let s = c.args in
    let passed = c.in_ok-judged in
    let roomy = site_roomy s.net.now s.held.now s.work.now s.node.now _ c.min.ensures passed.judged passed.ensures.network passed.ensures.value c.in_ok-site.site c.in_ok-site.ensures.ok.0 in
    omega (arith, roomy, c.copy_in.auto.table)

pub returns-clause-ok : goal.returns-clause-ok
returns-clause-ok c = let s = c.args in
    let passed = c.in_ok-judged in
    let site = c.in_ok-site.ensures.ok in
    passed_there s.net.now s.held.now s.work.now s.node.now _ c.min.ensures passed.judged passed.ensures.network passed.ensures.value c.in_ok-site.site site.0 site.1 site.2
    c.copy_in.new.table c.pass_over.new.table c.pass_over.result c.copy_in.ensures c.pass_over.ensures

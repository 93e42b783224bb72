use Rattle.std.proofs.Common.{arith, length}
use Rattle.tables.proofs.TableLaws.{cleared_at}
use Rattle.engines.proofs.ProgressLaws.{spot_behind}
use Rattle.search.proofs.SearchDoorLaws.{done_meets, search_plan, search_told}
use Rattle.search.proofs.search_judged.Goals as goal

pub tell-requires-clause-behind : goal.tell-requires-clause-behind
tell-requires-clause-behind c = let s = c.args in
    let v = c.visit_root-done in
    spot_behind s.task.asked s.task.judged.now.network.now.vars v.result v.new.plan v.new.out _ (done_meets s.task.judged.now s.task.held.now s.task.asked s.task.budget s.out.now c.begin-start.result v.result v.new.plan v.new.out c.begin-start.ensures v.ensures.1)

pub tell-requires-clause-plan : goal.tell-requires-clause-plan
tell-requires-clause-plan c = let s = c.args in
    let v = c.visit_root-done in
    search_plan s.task.judged.now s.task.held.now s.task.asked s.task.budget s.out.now c.begin-start.result v.result v.new.plan v.new.out c.begin-start.ensures v.ensures.1 c.requires.0

pub returns : goal.returns
returns c = let s = c.args in
    let v = c.visit_root-done in (
      search_told s.task.judged.now s.task.held.now s.task.asked s.task.budget s.out.now c.begin-start.result v.result v.new.plan v.new.out c.begin-start.ensures v.ensures.1 c.requires.0 c.tell.result c.tell.new.out (omega (arith, v.auto.out)) c.tell.ensures,
      cleared_at (length v.new.work) c.clear.new.table c.clear.ensures,
    )

use Rattle.std.proofs.Common.{ap, ◌∙◌, length}
use Rattle.tables.proofs.TableLaws.{cleared_at}
use Rattle.engines.specs.Results.{refused_search}
use Rattle.engines.proofs.TellingLaws.{zeros_all}
use Rattle.search.proofs.SearchDoorLaws.{search_refused, passed_roomy, held_whole, passed_leaves}
use Rattle.search.proofs.search.Goals as goal

pub search_judged-requires : goal.search_judged-requires
search_judged-requires c = let s = c.args in
    let passed = c.in-Ok in
    passed_roomy s.net s.held.now (length s.work.now) (length s.out.now) s.asked s.budget _ c.min.ensures passed.judged passed.ensures.network passed.ensures.value

pub returns-in-Ok : goal.returns-in-Ok
returns-in-Ok c = let s = c.args in
    let passed = c.in-Ok in
    let r = c.search_judged.ensures in
    (passed_leaves s.net s.held.now (length s.work.now) (length s.out.now) s.asked s.budget _ c.min.ensures passed.judged passed.ensures.network passed.ensures.value _ r.0, r.1)

pub returns-in-Err : goal.returns-in-Err
returns-in-Err c = let s = c.args in (
  search_refused s.net s.held.now (length s.work.now) (length s.out.now) s.asked s.budget _ c.min.ensures c.in-Err.why c.in-Err.ensures.value c.refused.result c.clear_from.new.out (c.refused.ensures ∙ ap refused_search c.into.ensures) (zeros_all s.out.now c.clear_from.new.out c.clear_from.ensures),
  cleared_at (length s.work.now) c.clear.new.table c.clear.ensures,
)

pub invariant_of-search_judged : goal.invariant_of-search_judged
invariant_of-search_judged c = let s = c.args in
    let passed = c.in-Ok in
    record { first = c.firsts.ensures; whole = held_whole s.net s.held.now (length s.work.now) (length s.out.now) s.asked s.budget _ c.min.ensures passed.judged passed.ensures.network passed.ensures.value }

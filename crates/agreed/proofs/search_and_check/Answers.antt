use Rattle.std.proofs.Common.{rules, refl, ◌^◌, ◌<◌, arith, length}
use Rattle.agreed.proofs.FiledRecords.{filed_after}
use Rattle.agreed.proofs.search_and_check.Goals as goal

pub desk_answer-answer-requires : goal.desk_answer-answer-requires
desk_answer-answer-requires c = let s = c.args in
    let found = c.search-found in
    let few : length s.out.now < 2 ^ 64 = search rules in
    λ d. (filed_after s.net s.held.now (length s.work.now) (length s.out.now) found.new.work found.new.out s.budget found.result (omega (arith, found.auto.work)) few found.ensures.0 d).0

pub returns : goal.returns
returns c = let s = c.args in
    let found = c.search-found in
    let few : length s.out.now < 2 ^ 64 = search (rules, c.well_formed) in (
      rw found.ensures.0,
      c.desk_answer-answer.ensures.0,
      filed_after s.net s.held.now (length s.work.now) (length s.out.now) s.work.now found.new.out s.budget found.result refl few found.ensures.0,
      c.desk_answer-answer.ensures.1 found.ensures.1,
    )

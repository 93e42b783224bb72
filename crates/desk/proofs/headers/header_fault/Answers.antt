use Rattle.desk.proofs.HeaderLaws.{header_claim, header_shape}
use Rattle.records.specs.Words.{word_at}
use Rattle.std.proofs.Common.{◌≡◌, ◌∙◌, Err, rules}
use Rattle.spelling.specs.Spelling.{Kept}
use Rattle.desk.proofs.headers.header_fault.Goals as goal

pub returns-in_err-claim_fault : goal.returns-in_err-claim_fault
returns-in_err-claim_fault c = let s = c.args in
    let out : ◌≡◌ {A = Kept} c.from_residual.result (Err c.in_err-claim_fault.field-0.0) = search rules in
    out ∙ header_claim s.net.now.top s.net.now.vars (word_at s.bytes.now) s.words _ c.claim_fault.ensures _ c.in_err-claim_fault.was

pub returns : goal.returns
returns c = let s = c.args in header_shape s.net.now.top s.net.now.vars (word_at s.bytes.now) s.words _ c.claim_fault.ensures c.in_ok-claim_fault.was _ c.values_of.ensures _ c.shape_fault.ensures

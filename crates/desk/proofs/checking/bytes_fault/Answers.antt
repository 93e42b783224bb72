use Rattle.desk.proofs.RecordLaws.{header-whole, bytes_short, bytes_part, bytes-header, bytes_plan, bytes_steps}
use Rattle.records.specs.Words.{word_bytes, word_at}
use Rattle.costs.specs.Networks.{stands}
use Rattle.costs.specs.Net.{costs_of}
use Rattle.std.proofs.Common.{◌≡◌, ◌∙◌, Err, rules, length, arith, sym, ◌/◌}
use Rattle.spelling.specs.Spelling.{Kept}
use Rattle.desk.proofs.checking.bytes_fault.Goals as goal
use Rattle.desk.proofs.checking.bytes_fault.Goals.{then-size-lt-HEADER_BYTES-via-then-size-lt-HEADER_BYTES, then-size-lt-HEADER_BYTES-via-else-size-lt-HEADER_BYTES+then-size-ne0}

pub returns-then-size-lt-HEADER_BYTES : goal.returns-then-size-lt-HEADER_BYTES
returns-then-size-lt-HEADER_BYTES c = let s = c.args in
    let n = stands s.judged.now.network.now in
    elim c.then-size-lt-HEADER_BYTES.branch [
      | then-size-lt-HEADER_BYTES-via-then-size-lt-HEADER_BYTES w ↦ bytes_short n (costs_of s.judged.now.network.now.constant s.held.now) s.bytes.now (omega arith)
      | then-size-lt-HEADER_BYTES-via-else-size-lt-HEADER_BYTES+then-size-ne0 w ↦ bytes_part n (costs_of s.judged.now.network.now.constant s.held.now) s.bytes.now (omega arith) w.if-size-ne0.true
    ]

pub returns-in_err-header_fault : goal.returns-in_err-header_fault
returns-in_err-header_fault c = let s = c.args in
    let n = stands s.judged.now.network.now in
    let out : ◌≡◌ {A = Kept} c.from_residual.result (Err c.in_err-header_fault.field-0.0) = search rules in
    out ∙ bytes-header n (costs_of s.judged.now.network.now.constant s.held.now) s.bytes.now (omega arith) (omega arith) _ c.header_fault.ensures _ c.in_err-header_fault.was

pub plan_fault-requires : goal.plan_fault-requires
plan_fault-requires c = let s = c.args in
    let whole = header-whole s.judged.now.network.now.top s.judged.now.network.now.vars (word_at s.bytes.now) (length s.bytes.now / word_bytes) (sym c.header_fault.ensures ∙ c.in_ok-header_fault.was) in
    record { holding = c.requires.holding; words = (omega arith, omega (arith, whole)) }

pub returns-in_err-plan_fault : goal.returns-in_err-plan_fault
returns-in_err-plan_fault c = let s = c.args in
    let n = stands s.judged.now.network.now in
    let out : ◌≡◌ {A = Kept} c.from_residual-in_err-plan_fault.result (Err c.in_err-plan_fault.field-0.0) = search rules in
    out ∙ bytes_plan n (costs_of s.judged.now.network.now.constant s.held.now) s.bytes.now (omega arith) (omega arith) _ c.header_fault.ensures c.in_ok-header_fault.was _ c.plan_fault.ensures _ c.in_err-plan_fault.was

pub tree_fault-requires-clause-words : goal.tree_fault-requires-clause-words
tree_fault-requires-clause-words c = let s = c.args in
    omega (arith, header-whole s.judged.now.network.now.top s.judged.now.network.now.vars (word_at s.bytes.now) (length s.bytes.now / word_bytes) (sym c.header_fault.ensures ∙ c.in_ok-header_fault.was))

pub returns : goal.returns
returns c = let s = c.args in
    let n = stands s.judged.now.network.now in
    c.tree_fault.ensures ∙ bytes_steps n (costs_of s.judged.now.network.now.constant s.held.now) s.bytes.now (omega arith) (omega arith) _ c.header_fault.ensures c.in_ok-header_fault.was _ c.plan_fault.ensures c.in_ok-plan_fault.was

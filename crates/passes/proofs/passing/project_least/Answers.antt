use Rattle.std.proofs.Common.{arith}
use Rattle.passes.proofs.TurnLaws.{unary_in, value_turns}
use Rattle.passes.proofs.passing.project_least.Goals as goal

pub overflow_add-at : goal.overflow_add-at
overflow_add-at c =
    let s = c.args in
    let known = c.requires.known in
    omega (arith, unary_in s.site _ s.i s.a c.requires.roomy known.1 known.2)

pub change_one-requires : goal.change_one-requires
change_one-requires c =
    let s = c.args in
    let known = c.requires.known in
    omega (arith, c.change_block.auto.table, unary_in s.site _ s.i s.a c.requires.roomy known.1 known.2)

pub returns-then-amount-gt0-clause-turns : goal.returns-then-amount-gt0-clause-turns
returns-then-amount-gt0-clause-turns c =
    let s = c.args in
    let known = c.requires.known in
    value_turns s.site s.f s.i s.a known.1 known.2 known.3 _ c.block-block.ensures _ s.table.now c.least_block-amount.ensures
    _ _ c.change_block.new.table c.change_one.new.table (λ z. omega (arith, c.if-amount-gt0.true)) c.gives.ensures c.change_block.ensures c.takes.ensures c.change_one.ensures

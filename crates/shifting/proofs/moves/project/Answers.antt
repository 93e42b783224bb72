use Rattle.std.proofs.Common.{arith}
use Rattle.shifting.proofs.SiteMoves.{asked_in, project_not, project_less, project_done}
use Rattle.shifting.proofs.moves.project.Goals as goal

pub returns-then-not-may_exchange : goal.returns-then-not-may_exchange
returns-then-not-may_exchange c = let s = c.args in project_not s.site s.amount s.constant s.table.now s.f s.i s.a _ c.may_exchange.ensures c.if-not-may_exchange.true

pub returns-then-least_block-amount : goal.returns-then-least_block-amount
returns-then-least_block-amount c =
    let s = c.args in
    project_less s.site s.amount s.constant s.table.now s.f s.i s.a _ c.may_exchange.ensures c.if-not-may_exchange.false _ c.block-block.ensures _ c.least_block.ensures c.if-least_block-amount.true

pub overflow_add-at : goal.overflow_add-at
overflow_add-at c =
    let s = c.args in
    omega (arith, asked_in s.site s.amount s.constant s.table.now s.f s.i s.a _ c.may_exchange.ensures c.if-not-may_exchange.false _ c.requires)

pub change_one-requires : goal.change_one-requires
change_one-requires c =
    let s = c.args in
    omega (arith, c.change_block.auto.table, asked_in s.site s.amount s.constant s.table.now s.f s.i s.a _ c.may_exchange.ensures c.if-not-may_exchange.false _ c.requires)

pub returns : goal.returns
returns c =
    let s = c.args in
    project_done s.site s.amount s.constant s.table.now s.f s.i s.a _ c.may_exchange.ensures c.if-not-may_exchange.false _ c.block-block.ensures _ c.least_block.ensures c.if-least_block-amount.false
    _ _ c.change_block.new.table c.change_one.new.table c.gives.ensures c.change_block.ensures c.takes.ensures c.change_one.ensures

use Rattle.std.proofs.Common.{arith}
use Rattle.shifting.proofs.SiteMoves.{asked_in, extend_no, extend_less, extend_done}
use Rattle.shifting.proofs.moves.extend.Goals as goal

pub returns-then-not-may_exchange : goal.returns-then-not-may_exchange
returns-then-not-may_exchange c = let s = c.args in extend_no s.site s.amount s.constant s.table.now s.f s.i s.a _ c.may_exchange.ensures c.if-not-may_exchange.true

pub overflow_add-at : goal.overflow_add-at
overflow_add-at c =
    let s = c.args in
    omega (arith, asked_in s.site s.amount s.constant s.table.now s.f s.i s.a _ c.may_exchange.ensures c.if-not-may_exchange.false _ c.requires)

pub offset_bounds-table-at : goal.offset_bounds-table-at
offset_bounds-table-at c =
    let s = c.args in
    omega (arith, asked_in s.site s.amount s.constant s.table.now s.f s.i s.a _ c.may_exchange.ensures c.if-not-may_exchange.false _ c.requires)

pub bounds-table-at : goal.bounds-table-at
bounds-table-at c =
    let s = c.args in
    omega (arith, asked_in s.site s.amount s.constant s.table.now s.f s.i s.a _ c.may_exchange.ensures c.if-not-may_exchange.false _ c.requires)

pub returns-then-table-at : goal.returns-then-table-at
returns-then-table-at c = let s = c.args in extend_less s.site s.amount s.constant s.table.now s.f s.i s.a _ c.may_exchange.ensures c.if-not-may_exchange.false c.if-table-at.true

pub returns : goal.returns
returns c =
    let s = c.args in
    extend_done s.site s.amount s.constant s.table.now s.f s.i s.a _ c.may_exchange.ensures c.if-not-may_exchange.false c.if-table-at.false _ c.block-block.ensures
    _ _ c.change_one.new.table c.change_block.new.table c.gives.ensures c.change_one.ensures c.takes.ensures c.change_block.ensures

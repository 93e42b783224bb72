use Rattle.std.proofs.Common.{sym, ◌∙◌, arith}
use Rattle.costs.proofs.TestLaws.{by_between, by_and, by_ltb, yes_by, no_by, so, not_so}
use Rattle.shifting.proofs.SiteMoves.{row_in, raise_not, raise_less, raise_done}
use Rattle.shifting.proofs.moves.raise.Goals as goal
use Rattle.shifting.proofs.moves.raise.Goals.{then-not-is_amount-via-then-not-is_amount, then-not-is_amount-via-else-not-is_amount+then-net-i}

pub returns-then-not-is_amount : goal.returns-then-not-is_amount
returns-then-not-is_amount c =
    let s = c.args in
    let top = s.site.judged.now.network.now.top in
    let may = by_and (by_between 1 top s.amount) (by_ltb s.i s.site.judged.now.network.now.vars) in
    raise_not s.site s.amount s.constant s.table.now s.i (no_by may (λ h. elim c.then-not-is_amount.branch [
      | then-not-is_amount-via-then-not-is_amount w ↦ not_so (sym c.is_amount.ensures ∙ w.if-not-is_amount.true) ((by_between 1 top s.amount).finds h.0)
      | then-not-is_amount-via-else-not-is_amount+then-net-i w ↦ omega (arith, h.1, w.if-net-i.true)
    ]))

pub least_row-requires : goal.least_row-requires
least_row-requires c = row_in c.args.site _ c.args.i c.requires c.if-net-i.false _ c.span-x.ensures

pub returns-then-least_row-amount : goal.returns-then-least_row-amount
returns-then-least_row-amount c =
    let s = c.args in
    raise_less s.site s.amount s.constant s.table.now s.i c.if-net-i.false _ c.span-x.ensures _ c.least_row.ensures c.if-least_row-amount.true

pub change_row-requires : goal.change_row-requires
change_row-requires c = row_in c.args.site _ c.args.i c.requires c.if-net-i.false _ c.span-x.ensures

pub returns : goal.returns
returns c =
    let s = c.args in
    let fair = by_between 1 s.site.judged.now.network.now.top s.amount in
    raise_done s.site s.amount s.constant s.table.now s.i c.if-net-i.false _ c.span-x.ensures _ c.least_row.ensures
    (yes_by (by_and fair (by_ltb s.i s.site.judged.now.network.now.vars)) (fair.says (so (sym c.is_amount.ensures ∙ c.if-not-is_amount.false)), c.if-net-i.false))
    c.if-least_row-amount.false _ c.change_row.new.table _ c.gives.ensures c.change_row.ensures c.plus_of.ensures

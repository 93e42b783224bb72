use Rattle.std.proofs.Common.{arith}
use Rattle.passes.proofs.TurnLaws.{row_in, variable_least, variable_stays, variable_turns}
use Rattle.passes.proofs.passing.raise_least.Goals as goal

pub least_row-amount-requires : goal.least_row-amount-requires
least_row-amount-requires c = row_in c.args.site _ c.args.i c.requires.roomy c.requires.known _ c.span-x.ensures

pub change_row-requires : goal.change_row-requires
change_row-requires c = row_in c.args.site _ c.args.i c.requires.roomy c.requires.known _ c.span-x.ensures

pub returns-then-amount-gt0-clause-value : goal.returns-then-amount-gt0-clause-value
returns-then-amount-gt0-clause-value c = let s = c.args in variable_least s.site s.i c.requires.known _ c.span-x.ensures _ s.table.now c.least_row-amount.ensures

pub returns-then-amount-gt0-clause-carries : goal.returns-then-amount-gt0-clause-carries
returns-then-amount-gt0-clause-carries c =
    let s = c.args in
    λ constant l. variable_turns s.site s.i c.requires.known _ c.span-x.ensures _ s.table.now c.least_row-amount.ensures
    _ c.change_row.new.table (λ z. omega (arith, c.if-amount-gt0.true)) c.gives.ensures c.change_row.ensures constant

pub returns-else-amount-gt0-clause-value : goal.returns-else-amount-gt0-clause-value
returns-else-amount-gt0-clause-value c = let s = c.args in variable_least s.site s.i c.requires.known _ c.span-x.ensures _ s.table.now c.least_row-amount.ensures

pub returns-else-amount-gt0-clause-carries : goal.returns-else-amount-gt0-clause-carries
returns-else-amount-gt0-clause-carries c =
    let s = c.args in
    variable_stays s.site s.i c.requires.known _ c.span-x.ensures _ s.table.now c.least_row-amount.ensures (omega (arith, c.if-amount-gt0.false))

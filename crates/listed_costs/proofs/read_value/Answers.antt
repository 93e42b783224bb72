use Rattle.std.proofs.Common.{◌≡◌, ◌+◌, ◌*◌, true, eqb, ltb, get_or, rules, tests}
use Rattle.tokens.specs.Steps.{and_then, demand, at_last}
use Rattle.listed_costs.specs.Listed.{unlisted, value}
use Rattle.listed_costs.proofs.read_value.Goals.{else-left-eq0-via-then-left-eq0+else-cell_at, else-left-eq0-via-else-left-eq0}
use Rattle.listed_costs.proofs.read_value.Goals as goal

pub returns-then-cell_at : goal.returns-then-cell_at
unfolding value and_then demand
returns-then-cell_at c = rw (← c.any_number.ensures, c.in_ok-a.was, c.if-left-eq0.true, ← c.cell_at.ensures) (search (tests, rules))

pub returns : goal.returns
unfolding value and_then demand
returns c =
    let below : ltb c.in_ok-a.a.value c.args.d ≡ true = search (tests, rules) in
    let new : at_last c.args.left (eqb (get_or c.args.cells.now (c.args.before * c.args.d + c.in_ok-a.a.value) 0) unlisted) ≡ true = elim c.else-left-eq0.branch [
      | else-left-eq0-via-then-left-eq0+else-cell_at w ↦ rw (← w.cell_at.ensures) (search (tests, rules))
      | else-left-eq0-via-else-left-eq0 w ↦ search (tests, rules)
    ] in
    rw (← c.any_number.ensures, c.in_ok-a.was, below, new)

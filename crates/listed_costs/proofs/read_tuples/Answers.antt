use Rattle.std.proofs.Common.{◌+◌, ◌-◌, sym, ◌∙◌, arith, rules}
use Rattle.tokens.specs.Steps.{and_then}
use Rattle.listed_costs.proofs.ListedLaws.{listing_end, listing_turn}
use Rattle.listed_costs.proofs.read_tuples.Goals as goal

pub returns-in_err-entry : goal.returns-in_err-entry
unfolding and_then
returns-in_err-entry c = rw (
  c.loop.invariant,
  listing_turn _ _ (c.args.many - c.loop.counter) _ _ _ (c.args.many - (c.loop.counter + 1)) (omega arith),
  ← c.read_tuple.ensures,
  c.in_err-entry.was,
) (search rules)

pub returns-in_err-cost : goal.returns-in_err-cost
unfolding and_then
returns-in_err-cost c = rw (
  c.loop.invariant,
  listing_turn _ _ (c.args.many - c.loop.counter) _ _ _ (c.args.many - (c.loop.counter + 1)) (omega arith),
  ← c.read_tuple.ensures,
  c.in_ok-entry.was,
  ← c.any_number.ensures,
  c.in_err-cost.was,
) (search rules)

pub loop-preserved : goal.loop-preserved
unfolding and_then
loop-preserved c = rw (
  c.loop.invariant,
  listing_turn _ _ (c.args.many - c.loop.counter) _ _ _ (c.args.many - (c.loop.counter + 1)) (omega arith),
  ← c.read_tuple.ensures,
  c.in_ok-entry.was,
  ← c.any_number.ensures,
  c.in_ok-cost.was,
  c.put_cell.ensures,
  c.min.ensures,
)

pub returns : goal.returns
returns c = sym (c.loop.invariant ∙ listing_end _ _ (c.args.many - c.loop.counter) _ _ _ (omega arith))

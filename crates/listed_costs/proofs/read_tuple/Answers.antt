use Rattle.std.proofs.Common.{sym, ◌∙◌, arith, rules}
use Rattle.costs.specs.Limits.{size_most}
use Rattle.costs.proofs.RowLaws.{digit_more}
use Rattle.tokens.specs.Steps.{and_then}
use Rattle.listed_costs.proofs.ListedLaws.{tuple_end, tuple_turn, value_below, index_room}
use Rattle.listed_costs.proofs.read_tuple.Goals as goal

pub read_value-requires : goal.read_value-requires
read_value-requires c = index_room c.loop-j.entry _ c.loop-j.j (omega arith) (c.args.ds.small.most c.loop-j.j) c.loop-j.invariant.few

pub returns-in_err-a : goal.returns-in_err-a
unfolding and_then
returns-in_err-a c = rw (c.loop-j.invariant.so_far, tuple_turn _ _ _ _ _ _ c.loop-j-test.true, ← c.read_value.ensures, c.in_err-a.was) (search rules)

pub overflow_mul-entry : goal.overflow_mul-entry
overflow_mul-entry c = omega (arith, index_room c.loop-j.entry _ c.loop-j.j (omega arith) (c.args.ds.small.most c.loop-j.j) c.loop-j.invariant.few)

pub overflow_add-entry : goal.overflow_add-entry
overflow_add-entry c = omega (
  arith,
  index_room c.loop-j.entry _ c.loop-j.j (omega arith) (c.args.ds.small.most c.loop-j.j) c.loop-j.invariant.few,
  value_below _ _ _ _ _ _ _ c.read_value.ensures _ c.in_ok-a.was,
)

pub loop-j-preserved : goal.loop-j-preserved
unfolding and_then
loop-j-preserved c = record {
  few = digit_more size_most c.loop-j.j c.loop-j.entry _ _ c.loop-j.invariant.few (c.args.ds.small.most c.loop-j.j) (value_below _ _ _ _ _ _ _ c.read_value.ensures _ c.in_ok-a.was);
  so_far = c.loop-j.invariant.so_far ∙ tuple_turn _ _ _ _ _ _ c.loop-j-test.true ∙ rw (← c.read_value.ensures, c.in_ok-a.was);
}

pub returns : goal.returns
returns c = sym (c.loop-j.invariant.so_far ∙ tuple_end _ _ c.loop-j.j _ _ _ c.loop-j-test.false)

use Rattle.std.proofs.Common.{◌≡◌, ◌-◌}
use Rattle.tokens.specs.Tokens.{text_of}
use Rattle.listed_costs.specs.Listed.{listing}
use Rattle.listed_costs.proofs.read_tuples.Given as goal

abbrev pub invariant-loop : goal.invariant-loop
invariant-loop l =
    listing l.top l.ds.sizes.now l.many l.initial.cells (text_of l.text) l.at ≡ listing l.top l.ds.sizes.now (l.many - l.counter) l.cells (text_of l.text) l.next

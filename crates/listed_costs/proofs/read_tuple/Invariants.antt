use Rattle.std.proofs.Common.{◌≡◌, ◌^◌, ◌<◌, drop}
use Rattle.costs.specs.Limits.{size_most}
use Rattle.tokens.specs.Tokens.{text_of}
use Rattle.listed_costs.specs.Listed.{tuple}
use Rattle.listed_costs.proofs.read_tuple.Given as goal

abbrev pub invariant-loop-j : goal.invariant-loop-j
invariant-loop-j l = record {
  few : l.entry < size_most ^ l.j;
  so_far : tuple l.cells l.ds.sizes.now 0 (text_of l.text) l.at ≡ tuple l.cells (drop l.j l.ds.sizes.now) l.entry (text_of l.text) l.next;
}

use Rattle.std.proofs.Common.{◌≡◌}
use Rattle.costs.specs.Cheapest.{value_in}
use Rattle.costs.specs.Range.{list_to}
use Rattle.records.specs.Words.{bytes_of}
use Rattle.recorder.specs.Ties.Splicing.{spliced, header_bytes}
use Rattle.recorder.proofs.put_values.Given as goal

abbrev pub invariant-loop-v : goal.invariant-loop-v
invariant-loop-v l = l.out ≡ spliced header_bytes (bytes_of (list_to l.v (value_in l.plan))) l.initial.out

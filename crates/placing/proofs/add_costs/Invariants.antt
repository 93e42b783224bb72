use Rattle.std.specs.Prelude.{◌≡◌}
use Rattle.placing.proofs.StretchLaws.{summed}
use Rattle.placing.proofs.add_costs.Given as goal

abbrev pub invariant-loop-i : goal.invariant-loop-i
invariant-loop-i l = l.stretch ≡ summed l.top l.i l.initial.stretch l.cells

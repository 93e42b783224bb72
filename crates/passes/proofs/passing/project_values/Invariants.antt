use Rattle.boxes.specs.Loops.{each_to}
use Rattle.shifts.specs.Ties.Sites.{net_at, lives}
use Rattle.passes.specs.Passing.{at_value}
use Rattle.passes.specs.Ties.Turns.{Turns}
use Rattle.passes.proofs.passing.project_values.Given as goal

abbrev pub invariant-loop-a : goal.invariant-loop-a
invariant-loop-a l = Turns (each_to (at_value (net_at l.site) (lives l.site) l.f l.i) l.a) l.initial.table l.table

use Rattle.std.proofs.Common.{◌+◌, ◌≤◌}
use Rattle.boxes.specs.Loops.{each_to}
use Rattle.shifts.specs.Ties.Sites.{net_at, lives}
use Rattle.passes.specs.Passing.{at_value}
use Rattle.bounds.specs.Ties.Noting.{Leads}
use Rattle.bounds.proofs.noting.note_values.Given as goal

abbrev pub invariant-loop-a : goal.invariant-loop-a
invariant-loop-a l = (l.count ≤ l.before + l.a) × Leads (each_to (at_value (net_at l.site) (lives l.site) l.f l.i) l.a) l.initial.table l.initial.notes l.before l.table l.notes l.count

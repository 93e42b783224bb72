use Rattle.std.proofs.Common.{◌≤◌}
use Rattle.boxes.specs.Loops.{each_to}
use Rattle.shifts.specs.Ties.Sites.{net_at, lives}
use Rattle.passes.specs.Passing.{at_variable}
use Rattle.passes.specs.Ties.Turns.{Carries}
use Rattle.passes.proofs.passing.raise_all.Given as goal

abbrev pub invariant-loop-i : goal.invariant-loop-i
invariant-loop-i l = (l.sum ≤ l.site.judged.now.network.now.top) × Carries (each_to (at_variable (net_at l.site) (lives l.site)) l.i) l.site.judged.now.network.now.constant l.initial.table l.sum l.table

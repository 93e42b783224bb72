use Rattle.std.proofs.Common.{◌+◌, ◌≤◌}
use Rattle.boxes.specs.Loops.{each_to}
use Rattle.shifts.specs.Ties.Sites.{net_at, lives}
use Rattle.passes.specs.Passing.{at_variable}
use Rattle.bounds.specs.Ties.Noting.{LeadsOn}
use Rattle.bounds.proofs.noting.note_raises.Given as goal

abbrev pub invariant-loop-i : goal.invariant-loop-i
invariant-loop-i l =
    (l.count ≤ l.before + l.i)
    × (l.constant ≤ l.site.judged.now.network.now.top)
    × LeadsOn (each_to (at_variable (net_at l.site) (lives l.site)) l.i) l.site.judged.now.network.now.constant l.initial.table l.initial.notes l.before l.constant l.table l.notes l.count

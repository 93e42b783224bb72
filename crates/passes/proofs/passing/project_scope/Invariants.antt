use Rattle.std.proofs.Common.{drop}
use Rattle.shifts.specs.Ties.Sites.{net_at, lives}
use Rattle.passes.specs.Ties.Turns.{Midway}
use Rattle.passes.proofs.passing.project_scope.Given as goal

abbrev pub invariant-loop-i : goal.invariant-loop-i
invariant-loop-i l = Midway (net_at l.site) (lives l.site) l.f (drop l.i-index l.i-items) l.i-items l.initial.table l.table

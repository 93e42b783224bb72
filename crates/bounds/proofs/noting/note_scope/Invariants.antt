use Rattle.std.proofs.Common.{◌+◌, ◌*◌, ◌≤◌, drop}
use Rattle.costs.specs.Limits.{size_most}
use Rattle.shifts.specs.Ties.Sites.{net_at, lives}
use Rattle.bounds.proofs.NotingLaws.{Midway}
use Rattle.bounds.proofs.noting.note_scope.Given as goal

abbrev pub invariant-loop-i : goal.invariant-loop-i
invariant-loop-i l = (l.count ≤ l.before + l.i-index * size_most) × Midway (net_at l.site) (lives l.site) l.f (drop l.i-index l.i-items) l.i-items l.initial.table l.initial.notes l.before l.table l.notes l.count

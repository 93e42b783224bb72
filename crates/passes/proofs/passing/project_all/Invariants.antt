use Rattle.std.proofs.Common.{◌+◌}
use Rattle.boxes.specs.Loops.{each_to}
use Rattle.shifts.specs.Ties.Sites.{net_at, lives}
use Rattle.passes.specs.Passing.{at_scope}
use Rattle.passes.specs.Ties.Turns.{Turns}
use Rattle.passes.proofs.passing.project_all.Given as goal

abbrev pub invariant-loop-f : goal.invariant-loop-f
invariant-loop-f l = Turns (each_to (λ x. at_scope (net_at l.site) (lives l.site) x ((net_at l.site).scope (l.site.judged.now.network.now.vars + x))) l.f) l.initial.table l.table

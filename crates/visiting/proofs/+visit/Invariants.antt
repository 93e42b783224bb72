use Rattle.std.proofs.Common.{◌≡◌, ◌-◌, length, set}
use Rattle.costs.specs.Limits.{vars_most}
use Rattle.visiting.specs.Ties.Visiting.{Through}
use Rattle.visiting.proofs.+visit.Given as goal

abbrev pub invariant-loop-a : goal.invariant-loop-a
invariant-loop-a l = (length l.plan ≡ vars_most) × (l.node ≡ set l.initial.node l.depth l.a) × Through l.task.judged.now.network.now l.task.held.now l.task.asked l.task.budget l.initial.node l.depth l.a l.initial.next l.initial.plan l.initial.out l.next l.plan l.out

-- the variables that are not fixed yet
abbrev pub decreases-visit : goal.decreases-visit
decreases-visit l = l.task.judged.now.network.now.vars - l.depth

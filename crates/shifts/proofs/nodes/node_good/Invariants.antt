use Rattle.std.specs.Prelude.{ℕ, ◌≤◌, ◌<◌, get_or}
use Rattle.shifts.proofs.nodes.node_good.Given as goal

abbrev pub invariant-loop-v : goal.invariant-loop-v
invariant-loop-v l = (w : ℕ) → w < l.v → get_or l.node w 0 ≤ get_or l.net.sizes w 0

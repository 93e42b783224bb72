use Rattle.std.proofs.Common.{ℕ, ◌<◌, get_or}
use Rattle.prices.proofs.first_bad.Given as goal

abbrev pub invariant-loop-v : goal.invariant-loop-v
invariant-loop-v l = (w : ℕ) → w < l.v → get_or l.choice w 0 < get_or l.net.sizes w 0

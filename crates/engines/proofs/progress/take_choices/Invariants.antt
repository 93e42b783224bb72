use Rattle.std.proofs.Common.{ℕ, ◌<◌, ◌≡◌, length, get_or}
use Rattle.costs.specs.Limits.{vars_most}
use Rattle.engines.specs.Ties.Progressing.{choices}
use Rattle.engines.proofs.progress.take_choices.Given as goal

abbrev pub invariant-loop-v : goal.invariant-loop-v
invariant-loop-v l = (length l.plan ≡ vars_most) × ((w : ℕ) → w < l.v → get_or l.plan w 0 ≡ choices l.node w)

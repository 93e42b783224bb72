use Rattle.std.proofs.Common.{◌≡◌, ◌+◌}
use Rattle.prices.specs.Ties.Sums.{sum_in}
use Rattle.prices.proofs.prices.with_functions.Given as goal

abbrev pub invariant-loop-f : goal.invariant-loop-f
invariant-loop-f l = l.sum ≡ sum_in l.judged.network.now l.table l.choice (l.judged.network.now.vars + l.f)

use Rattle.std.proofs.Common.{◌≡◌}
use Rattle.costs.specs.Net.{start as start_in}
use Rattle.costs.specs.Networks.{stands}
use Rattle.prices.specs.Ties.Sums.{sum_in}
use Rattle.prices.proofs.prices.with_unary.Given as goal

abbrev pub invariant-loop-v : goal.invariant-loop-v
invariant-loop-v l = (l.sum ≡ sum_in l.judged.network.now l.table l.choice l.v) × (l.start ≡ start_in (stands l.judged.network.now) l.v)

use Rattle.std.proofs.Common.{◌≡◌, ◌<◌, ◌+◌, ◌*◌, ◌^◌, get_or, drop}
use Rattle.costs.specs.Limits.{size_most}
use Rattle.costs.specs.Net.{tuples, entry as entry_in}
use Rattle.costs.specs.Cheapest.{value_in}
use Rattle.prices.proofs.prices.entry_of.Given as goal

abbrev pub invariant-loop-v : goal.invariant-loop-v
invariant-loop-v l =
    (l.entry * tuples (λ v. get_or l.net.sizes v 0) (drop l.v-index l.v-items) + entry_in (λ v. get_or l.net.sizes v 0) (value_in l.choice) (drop l.v-index l.v-items) ≡ entry_in (λ v. get_or l.net.sizes v 0) (value_in l.choice) l.v-items) × (l.entry < size_most ^ l.v-index)

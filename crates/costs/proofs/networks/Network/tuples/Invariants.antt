use Rattle.std.proofs.Common.{◌≡◌, ◌≤◌, ◌*◌, ◌^◌, get_or, drop}
use Rattle.costs.specs.Limits.{size_most}
use Rattle.costs.specs.Net.{tuples}
use Rattle.costs.proofs.networks.Network.tuples.Given as goal

abbrev pub invariant-loop-v : goal.invariant-loop-v
invariant-loop-v l =
    (l.many * tuples (λ v. get_or l.self.sizes v 0) (drop l.v-index l.v-items) ≡ tuples (λ v. get_or l.self.sizes v 0) l.v-items) × (l.many ≤ size_most ^ l.v-index)

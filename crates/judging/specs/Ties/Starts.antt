-- Ties: where the unary stretches of a network begin.
use Rattle.std.specs.Prelude.{ℕ, ◌<◌, ◌≡◌, List, get_or}
use Rattle.costs.specs.declared.networks.Network.{Network}
use Rattle.costs.specs.Net.{start}
use Rattle.costs.specs.Networks.{stands}

-- of each variable the start of its stretch; past N nothing is said
abbrev pub Starts : Network → List ℕ → Type 0
Starts net firsts = (v : ℕ) → v < net.vars → get_or firsts v 0 ≡ start (stands net) v

-- Ties: what the rooms above say of a site: the network, what is live, and that the table has room for its costs.
use Rattle.std.specs.Prelude.{ℕ, Bool}
use Rattle.costs.specs.Net.{Net}
use Rattle.costs.specs.Networks.{stands}
use Rattle.shifts.specs.Nodes.{live_in}
use Rattle.shifts.specs.declared.sites.Site.{Site}

abbrev pub net_at : Site → Net
net_at site = stands site.judged.now.network.now

abbrev pub lives : Site → ℕ → ℕ → Bool
lives site = live_in site.judged.now.network.now.sizes site.node.now

-- A site is laid out as the laws of tables ask. Assumes nothing.
use Rattle.std.specs.Prelude.{ℕ, ◌≤◌}
use Rattle.costs.specs.Net.{entries}
use Rattle.costs.specs.Networks.{outline_of}
use Rattle.shifts.specs.declared.sites.Site.{Site}
use Rattle.shifts.specs.Ties.Parts.{Laid}
use Rattle.shifts.specs.Ties.Sites.{net_at}

-- what its type keeps, beside room in the table
pub site_laid : (site : Site) (room : ℕ) → entries (net_at site) ≤ room
    → Laid (outline_of site.judged.now.network.now) site.judged.now.network.now.sizes site.judged.now.network.now.scopes site.judged.now.network.now.starts site.firsts.now site.node.now room
site_laid site room roomy = record { ready = site.judged.now.ready; first = site.first; node = site.legal; roomy = roomy }

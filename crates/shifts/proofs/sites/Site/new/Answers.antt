use mathlib.Core.Path.{sym, ◌∙◌}
use Rattle.costs.proofs.TestLaws.{so}
use Rattle.shifts.proofs.NodeLaws.{by_bytes}
use Rattle.shifts.proofs.sites.Site.new.Goals as goal

pub invariant_of-result : goal.invariant_of-result
invariant_of-result c = let net = c.args.judged.now.network.now in
    record { first = c.requires; legal = (by_bytes net.vars net.sizes c.args.node.now).says (so (sym c.node_good.ensures ∙ c.if-not-node_good.false)) }

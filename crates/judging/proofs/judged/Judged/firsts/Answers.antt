use Rattle.std.proofs.Common.{sym, ◌∙◌}
use Rattle.costs.specs.Networks.{outline_of}
use Rattle.judging.proofs.JudgeLaws.{start_first}
use Rattle.judging.proofs.judged.Judged.firsts.Goals as goal

pub unary_starts-requires : goal.unary_starts-requires
unary_starts-requires c = let scoped = c.args.self.now.ready.scoped in record { few = scoped.vars_few; small = scoped.small }

pub returns : goal.returns
returns c = let net = c.args.self.now.network.now in
    λ v l. c.unary_starts.ensures v l ∙ sym (start_first (outline_of net) net.sizes net.scopes c.args.self.now.ready.scoped v l)

use mathlib.Core.Path.{◌∙◌}
use Rattle.shifts.proofs.PartLaws.{child_here, child_else}
use Rattle.shifts.proofs.sites.Site.child_span.Goals as goal

pub returns-then-v-i : goal.returns-then-v-i
returns-then-v-i c = let s = c.args in
    rw c.size.ensures (child_here s.self.judged.now.network.now.sizes s.self.node.now s.i s.a s.v c.if-v-i.true)

pub returns : goal.returns
returns c = let s = c.args in
    c.span.ensures ∙ child_else s.self.judged.now.network.now.sizes s.self.node.now s.i s.a s.v c.if-v-i.false

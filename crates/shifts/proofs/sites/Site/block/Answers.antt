use Rattle.std.specs.Prelude.{◌≡◌, ◌<◌}
use mathlib.Core.Path.{refl, sym, ap, ◌∙◌}
use native.Mathlib.Omega.{arith}
use lib.ListN.{length}
use Rattle.costs.specs.Networks.{in_row, outline_of}
use Rattle.shifts.proofs.PartLaws.{holds_two, holds_three, scope_long, scope_first, scope_second, scope_third}
use Rattle.shifts.proofs.sites.Site.block.Goals as goal

pub returns-then-scope-eq2 : goal.returns-then-scope-eq2
returns-then-scope-eq2 c =
    let s = c.args in
    let site = s.self in
    let net = site.judged.now.network.now in
    let ready = site.judged.now.ready in
    let row = in_row net.scopes s.f in
    let few = ready.scoped.arity_least s.f c.requires.0 in
    let e : c.scope-scope.result.now ≡ _ = c.scope-scope.ensures in
    let two : 2 ≡ row 0 = sym c.if-scope-eq2.true ∙ ap length e ∙ scope_long row (ready.scoped.arity_at_most s.f c.requires.0) in
    holds_two (outline_of net) net.sizes net.scopes net.starts site.node.now ready site.legal s.f s.i s.a c.requires.0 c.requires.1 c.requires.2
    2 _ _ _ two refl c.start-at.ensures
    (rw (← scope_first row (omega arith), ← e, ← c.from.ensures) c.child_span-first.ensures) (rw (← scope_second row (omega arith), ← e, ← c.from-2.ensures) c.child_span-second.ensures)

pub returns : goal.returns
returns c =
    let s = c.args in
    let site = s.self in
    let net = site.judged.now.network.now in
    let ready = site.judged.now.ready in
    let row = in_row net.scopes s.f in
    let few = ready.scoped.arity_least s.f c.requires.0 in
    let most = ready.scoped.arity_at_most s.f c.requires.0 in
    let e : c.scope-scope.result.now ≡ _ = c.scope-scope.ensures in
    let long : length c.scope-scope.result.now ≡ row 0 = ap length e ∙ scope_long row most in
    let more : 2 < row 0 = omega (arith, c.if-scope-eq2.false) in
    holds_three (outline_of net) net.sizes net.scopes net.starts site.node.now ready site.legal s.f s.i s.a c.requires.0 c.requires.1 c.requires.2
    (row 0) _ _ _ _ refl (λ q. c.if-scope-eq2.false (long ∙ sym q)) c.start-at.ensures
    (rw (← scope_first row (omega arith), ← e, ← c.from.ensures) c.child_span-first.ensures) (rw (← scope_second row (omega arith), ← e, ← c.from-2.ensures) c.child_span-second.ensures) (rw (← scope_third row more, ← e, ← c.from-3.ensures) c.child_span-third.ensures)

use Rattle.spelling.proofs.StandingLaws.{upright_room, branched_upright, branched_nodes}
use Rattle.costs.specs.Limits.{vars_most}
use Rattle.std.proofs.Common.{ℕ, ◌≡◌, length, get_or, refl, arith, rules}
use Rattle.spelling.proofs.trees.Place.branched.Goals as goal

pub overflow_add-next : goal.overflow_add-next
overflow_add-next c = let s = c.args in omega (arith, upright_room s.net.now.vars (λ v. get_or s.net.now.sizes v 0) s.self s.i c.requires.upright c.requires.variable.0 c.requires.variable.2, c.requires)

pub bounds-next-self : goal.bounds-next-self
bounds-next-self c = let s = c.args in omega (arith, upright_room s.net.now.vars (λ v. get_or s.net.now.sizes v 0) s.self s.i c.requires.upright c.requires.variable.0 c.requires.variable.2, c.requires)

pub returns : goal.returns
returns c = let s = c.args in
    let p = s.self in
    let size : ℕ → ℕ = λ v. get_or s.net.now.sizes v 0 in
    let lf : length p.fixed ≡ vars_most = search rules in
    let lo : length p.order ≡ vars_most = search rules in
    let room = upright_room s.net.now.vars size p s.i c.requires.upright c.requires.variable.0 c.requires.variable.2 in
    record { upright = branched_upright s.net.now.vars size p s.i c.requires.upright c.requires.variable.0 c.requires.variable.2 c.requires.variable.3 (omega (arith, c.requires)) (omega (arith, c.requires)); nodes = branched_nodes s.net.now.vars size p s.i c.requires.upright c.requires.variable.0 c.requires.variable.2 c.requires.variable.3 (omega (arith, c.requires)) (omega (arith, c.requires)); begun_is = refl; constant_is = refl }

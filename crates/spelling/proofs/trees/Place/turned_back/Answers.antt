use Rattle.spelling.proofs.StandingLaws.{upright_depth, top_known, next_upright, next_nodes, none_stacked, none_pending}
use Rattle.spelling.specs.Ties.Standing.{pending_at, nodes_at}
use Rattle.std.proofs.Common.{ℕ, ◌≡◌, ◌+◌, ◌-◌, ◌<◌, ◌≤◌, get_or, refl, ◌∙◌, arith, rules, length-set}
use Rattle.spelling.proofs.trees.Place.turned_back.Goals as goal

pub loop-level-init : goal.loop-level-init
loop-level-init c = let s = c.args in
    let size : ℕ → ℕ = λ v. get_or s.net.now.sizes v 0 in
    record { few = omega (arith, upright_depth s.net.now.vars size s.self c.requires.upright, c.requires); whole = search rules; stacked = c.requires.upright.stacked; same = refl }

pub returns-then-from-size : goal.returns-then-from-size
unfolding pending_at
returns-then-from-size c = let s = c.args in
    let k = c.loop-level in
    let size : ℕ → ℕ = λ v. get_or s.net.now.sizes v 0 in
    let i = c.from-i.result in
    let next = get_or k.fixed i 0 in
    let top : i < s.net.now.vars = top_known s.net.now.vars size k.fixed s.self.order k.level i c.loop-level-test.true c.from-i.ensures k.invariant.stacked in
    let left : next < size i = omega (arith, c.from.ensures, c.size.ensures) in
    let deep : k.level - 1 + 1 ≡ k.level = omega arith in
    rw deep
    (record { upright = next_upright s.net.now.vars size k.fixed s.self.order k.level i next c.loop-level-test.true c.from-i.ensures refl (omega (arith, c.requires)) k.invariant.stacked left s.net.now.constant; nodes = next_nodes s.net.now.vars size k.fixed s.self.order k.level i next c.loop-level-test.true c.from-i.ensures refl (omega (arith, c.requires)) k.invariant.stacked left s.net.now.constant ∙ k.invariant.same; begun_is = refl; constant_is = refl })

pub loop-level-preserved : goal.loop-level-preserved
loop-level-preserved c = let s = c.args in
    let k = c.loop-level in
    let size : ℕ → ℕ = λ v. get_or s.net.now.sizes v 0 in
    let i = c.from-i.result in
    let next = get_or k.fixed i 0 in
    let top : i < s.net.now.vars = top_known s.net.now.vars size k.fixed s.self.order k.level i c.loop-level-test.true c.from-i.ensures k.invariant.stacked in
    let over : size i ≤ next = omega (arith, c.from.ensures, c.size.ensures) in
    record {
      few = omega (arith, k.invariant);
      whole = simp length-set k.invariant.whole;
      stacked = none_stacked s.net.now.vars size k.fixed s.self.order k.level i next c.loop-level-test.true c.from-i.ensures refl (omega (arith, c.requires)) k.invariant.stacked over;
      same = none_pending s.net.now.vars size k.fixed s.self.order k.level i next c.loop-level-test.true c.from-i.ensures refl (omega (arith, c.requires)) k.invariant.stacked over ∙ k.invariant.same;
    }

pub returns : goal.returns
unfolding pending_at nodes_at
returns c = let k = c.loop-level in
    let e : k.level ≡ 0 = omega arith in
    record { upright = record { stacked = rw e at k.invariant.stacked }; nodes = rw e at k.invariant.same; begun_is = refl; constant_is = refl }

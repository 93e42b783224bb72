use native.Mathlib.Omega.{arith}
use lib.ListN.{get_or, length-set}
use borrow.Author.Rules.{rules}
use Rattle.costs.specs.Range.{sum_to}
use Rattle.costs.proofs.RangeLaws.{sum_to_next, filled_more}
use Rattle.judging.proofs.starts.unary_starts.Goals as goal

pub loop-v-init : goal.loop-v-init
loop-v-init c = (search rules, search rules, search rules, λ w l. absurd (omega arith))

pub overflow_add-at : goal.overflow_add-at
overflow_add-at c =
    omega (arith, c.requires.small c.loop-v.v (omega arith))

pub loop-v-preserved : goal.loop-v-preserved
loop-v-preserved c =
    let s = c.args in
    let e = sum_to_next c.loop-v.v (λ w. get_or s.sizes.now w 0) in (
      simp length-set c.loop-v.invariant.0,
      omega (arith, e, c.loop-v.invariant.1),
      omega (arith, c.requires.small c.loop-v.v (omega arith)),
      filled_more (λ x. sum_to x (λ w. get_or s.sizes.now w 0)) c.loop-v.firsts c.loop-v.v c.loop-v.at (omega arith) c.loop-v.invariant.1 c.loop-v.invariant.3,
    )

pub returns : goal.returns
returns c =
    λ w l. c.loop-v.invariant.3 w (omega arith)

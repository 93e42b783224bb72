use Rattle.std.proofs.Common.{◌+◌, ◌≡◌, below_more, arith}
use Rattle.costs.proofs.RowLaws.{start_unary, start-function, tuples_most}
use Rattle.judging.proofs.JudgeLaws.{stretched_yes, stretched_no}
use Rattle.judging.proofs.stretches.Goals as goal

pub loop-f-init : goal.loop-f-init
loop-f-init c = let net = c.args.net.now in
    let e : net.vars + 0 ≡ net.vars = omega arith in
    (rw (e, start_unary net.vars net.sizes net.scopes) c.unary_entries-at.ensures.0, omega (arith, c.unary_entries-at.ensures), λ g l. absurd (omega arith))

pub returns-then-start-at : goal.returns-then-start-at
returns-then-start-at c = let net = c.args.net.now in
    stretched_no net.vars net.functions net.sizes net.scopes net.starts c.loop-f.f (omega arith)
    (λ e. omega (arith, e, c.start.ensures, c.loop-f.invariant.0))

pub overflow_add-at : goal.overflow_add-at
overflow_add-at c = let net = c.args.net.now in
    omega (arith, c.tuples-at.ensures, tuples_most net.vars net.functions net.sizes net.scopes c.requires c.loop-f.f (omega arith))

pub loop-f-preserved : goal.loop-f-preserved
loop-f-preserved c = let net = c.args.net.now in (
  rw (start-function, ← c.loop-f.invariant.0, ← c.tuples-at.ensures),
  omega (arith, c.tuples-at.ensures, tuples_most net.vars net.functions net.sizes net.scopes c.requires c.loop-f.f (omega arith)),
  below_more _ _ c.loop-f.invariant.2 (omega (arith, c.start.ensures, c.loop-f.invariant.0)),
)

pub returns : goal.returns
returns c = let net = c.args.net.now in
    let e : c.loop-f.f ≡ net.functions = omega arith in
    rw (c.loop-f.invariant.0, e) (stretched_yes net.vars net.functions net.sizes net.scopes net.starts (λ g l. c.loop-f.invariant.2 g (omega arith)))

use Rattle.std.proofs.Common.{◌≡◌, arith, sym, ◌∙◌}
use Rattle.costs.specs.Networks.{in_row}
use Rattle.judging.specs.Judging.{row_good, scopes_good}
use Rattle.costs.proofs.RangeLaws.{all_to_fails}
use Rattle.judging.proofs.scopes_good.Goals as goal

pub returns-then-not-row_good : goal.returns-then-not-row_good
unfolding scopes_good
returns-then-not-row_good c = let net = c.args.net.now in
    sym (all_to_fails net.functions c.loop-f.f (λ g. row_good net.vars (in_row net.scopes g)) c.loop-f-test.true (sym c.row_good.ensures ∙ c.if-not-row_good.true))

pub returns : goal.returns
unfolding scopes_good
returns c = let e : c.args.net.now.functions ≡ c.loop-f.f = omega arith in rw e (sym c.loop-f.invariant)

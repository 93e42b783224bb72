use Rattle.spelling.proofs.SteppingLaws.{tried_shift}
use Rattle.spelling.proofs.StandingLaws.{upright_node}
use Rattle.shifts.specs.Nodes.{live_in}
use Rattle.costs.specs.Networks.{sizes_of, stands}
use Rattle.std.specs.Result.{result_ok}
use Rattle.std.proofs.Common.{◌≡◌, sym, ◌∙◌, Some, None, rules}
use Rattle.spelling.proofs.steps.shift_step.Goals as goal

pub invariant_of-site : goal.invariant_of-site
invariant_of-site c = let s = c.args in
    let net = s.claimed.judged.now.network.now in
    record { first = s.claimed.first; legal = λ v l. upright_node net.vars (sizes_of net.sizes) s.place c.requires.upright v }

pub returns-in_err-constant : goal.returns-in_err-constant
returns-in_err-constant c = let s = c.args in
    let net = s.claimed.judged.now.network.now in
    let none : result_ok c.try_shift.result ≡ None = sym c.ok.ensures.value ∙ c.in_err-constant.was in
    let out : c.from_residual.result ≡ None = search rules in
    rw out (rw none at (tried_shift (stands net) (live_in net.sizes s.place.fixed) s.place s.one s.work.now _ c.try_shift.result c.try_shift.ensures))

pub returns : goal.returns
returns c = let s = c.args in
    let net = s.claimed.judged.now.network.now in
    let some : result_ok c.try_shift.result ≡ Some c.in_ok-constant.constant = sym c.ok.ensures.value ∙ c.in_ok-constant.was in
    rw some at (tried_shift (stands net) (live_in net.sizes s.place.fixed) s.place s.one s.work.now _ c.try_shift.result c.try_shift.ensures)

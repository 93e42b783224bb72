use Rattle.std.proofs.Common.{◌≡◌, true}
use Rattle.costs.specs.Range.{all_to}
use Rattle.costs.specs.Networks.{in_row}
use Rattle.judging.specs.Judging.{row_good}
use Rattle.judging.proofs.scopes_good.Given as goal

abbrev pub invariant-loop-f : goal.invariant-loop-f
invariant-loop-f l = all_to l.f (λ g. row_good l.net.vars (in_row l.net.scopes g)) ≡ true

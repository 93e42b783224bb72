use Rattle.std.proofs.Common.{rules, ◌≡◌, leb, take, ◌∙◌}
use Rattle.std.specs.List.{list_all}
use Rattle.judging.proofs.JudgeLaws.{costs_all}
use Rattle.judging.proofs.costs_good.Goals as goal

pub returns : goal.returns
returns c = let e : c.at_most.result ≡ list_all (λ cost. leb cost c.args.top) (take c.min.result c.args.table.now) = search rules in
    (rw c.min.ensures at e) ∙ costs_all c.args.top c.args.many c.args.table.now

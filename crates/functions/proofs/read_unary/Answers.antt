use Rattle.std.proofs.Common.{arith, ◌≤◌, ◌∙◌, sym, replicate, length-take-le}
use Rattle.costs.specs.Limits.{size_most}
use Rattle.functions.proofs.FunctionLaws.{one_product}
use Rattle.functions.proofs.read_unary.Goals as goal

pub read_costs-requires : goal.read_costs-requires
read_costs-requires c =
    let l : c.size-size.result ≤ size_most = omega (arith, c.size-size.ensures, c.args.draft.now.ranged.small c.args.x) in
    length-take-le c.size-size.result (replicate size_most 0) l ∙ sym (one_product c.size-size.result)

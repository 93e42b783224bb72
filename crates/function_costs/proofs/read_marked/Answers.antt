use Rattle.std.proofs.Common.{sym, ◌∙◌, ap}
use Rattle.soft_sums.specs.Ties.Outcomes.{soft_is}
use Rattle.soft_sums.proofs.SoftLaws.{soft_fair}
use Rattle.function_costs.proofs.read_marked.Goals as goal

pub fill_soft-requires-clause-fair : goal.fill_soft-requires-clause-fair
fill_soft-requires-clause-fair c = soft_fair _ _ _ _ (ap soft_is (sym c.in_ok-soft.was) ∙ c.read_soft.ensures)

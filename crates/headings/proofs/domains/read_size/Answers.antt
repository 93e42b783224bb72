use Rattle.std.proofs.Common.{◌∙◌, sym, ap, arith}
use Rattle.tokens.specs.Ties.Outcomes.{num_is}
use Rattle.tokens.proofs.NumberLaws.{in_range}
use Rattle.headings.proofs.domains.read_size.Goals as goal

pub overflow_add-entries : goal.overflow_add-entries
overflow_add-entries c = omega (arith, in_range _ _ _ _ _ _ (ap num_is (sym c.in_ok-d.was) ∙ c.number_in.ensures))

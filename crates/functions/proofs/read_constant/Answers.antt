use Rattle.std.proofs.Common.{refl}
use Rattle.stretches.specs.Sizes.{product}
use Rattle.functions.proofs.read_constant.Goals as goal

pub read_costs-requires : goal.read_costs-requires
unfolding product
read_costs-requires c = refl

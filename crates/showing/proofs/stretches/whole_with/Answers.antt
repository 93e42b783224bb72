use Rattle.std.proofs.Common.{◌∙◌}
use Rattle.showing.proofs.ShowingLaws.{whole_ok}
use Rattle.showing.proofs.stretches.whole_with.Goals as goal

pub returns : goal.returns
returns c = c.is_ok.ensures.value ∙ whole_ok _ _ _ c.judge.ensures.value

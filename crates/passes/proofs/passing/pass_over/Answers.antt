use Rattle.shifts.specs.Ties.Sites.{net_at, lives}
use Rattle.passes.proofs.TurnLaws.{pass_carries}
use Rattle.passes.proofs.passing.pass_over.Goals as goal

pub returns : goal.returns
returns c =
    let s = c.args in
    pass_carries (net_at s.site) (lives s.site) s.site.judged.now.network.now.constant c.raise_all.result s.table.now c.project_all.new.table c.raise_all.new.table c.project_all.ensures c.raise_all.ensures

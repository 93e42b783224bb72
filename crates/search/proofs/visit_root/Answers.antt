use Rattle.std.proofs.Common.{ℕ, ◌≡◌, arith, length}
use Rattle.search.proofs.SearchDoorLaws.{enters_root}
use Rattle.search.proofs.visit_root.Goals as goal

pub visit-requires : goal.visit-requires
visit-requires c = let s = c.args in enters_root s.task.judged.now s.task.held.now s.task.asked (length s.work.now) _ _ c.requires.0 (λ a. omega arith) c.requires.1

pub visit-requires-2 : goal.visit-requires-2
visit-requires-2 c = let s = c.args in
    let unasked = c.if-task.false in
    enters_root s.task.judged.now s.task.held.now s.task.asked (length s.work.now) _ _ c.requires.0 (λ a. absurd (let z : ◌≡◌ {A = ℕ} 0 1 = cc in omega arith)) c.requires.1

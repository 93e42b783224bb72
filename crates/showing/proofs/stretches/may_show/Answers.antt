use Rattle.std.proofs.Common.{sym, ◌∙◌}
use Rattle.costs.proofs.TestLaws.{so, not_so}
use Rattle.showing.specs.Showing.{may_show}
use Rattle.showing.proofs.stretches.may_show.Goals.{then-whole_with, else-whole_with}
use Rattle.showing.proofs.stretches.may_show.Goals as goal

pub returns-then-whole_with-2 : goal.returns-then-whole_with-2
unfolding may_show
returns-then-whole_with-2 c = elim c.if-whole_with.branch [
  | then-whole_with w ↦ rw (sym c.whole_with.ensures ∙ w.if-whole_with.true, sym w.whole_with-then-whole_with.ensures ∙ sym w.value-is ∙ c.if-whole_with-2.true)
  | else-whole_with w ↦ absurd (not_so (w.value-is ∙ w.if-whole_with.false) (so c.if-whole_with-2.true))
]

pub returns-else-whole_with-2 : goal.returns-else-whole_with-2
unfolding may_show
returns-else-whole_with-2 c = c.if-whole_with-2.false ∙ elim c.if-whole_with.branch [
  | then-whole_with w ↦ rw (sym c.whole_with.ensures ∙ w.if-whole_with.true, sym w.whole_with-then-whole_with.ensures ∙ sym w.value-is ∙ c.if-whole_with-2.false)
  | else-whole_with w ↦ rw (sym c.whole_with.ensures ∙ w.if-whole_with.false)
]

use Rattle.std.proofs.Common.{◌≤◌}
use Rattle.trial_frames.proofs.headers.header_of.Given as goal

abbrev pub invariant-loop-word : goal.invariant-loop-word
invariant-loop-word l =
    (goal.iterator-loop-word).can_next l.word-iterator × (goal.iterator-loop-word).is_finite l.word-iterator × (l.many ≤ 70)

use Rattle.std.proofs.Common.{◌≡◌, take}
use Rattle.records.specs.Words.{bytes_of}
use Rattle.recorder.specs.Ties.Splicing.{spliced}
use Rattle.recorder.proofs.put_words.Given as goal

abbrev pub invariant-loop-i : goal.invariant-loop-i
invariant-loop-i l = l.out ≡ spliced l.at (bytes_of (take l.i l.words)) l.initial.out

use Rattle.std.proofs.Common.{arith}
use Rattle.recorder.proofs.SpliceLaws.{adds_more}
use Rattle.recorder.proofs.note_step.Goals as goal

pub returns : goal.returns
returns c = rw c.in_ok-at.was (adds_more c.args.out.now _ c.in_ok-at.at c.args.step (omega arith) (rw c.words.ensures at c.put_words.ensures))

use Rattle.recorder.proofs.SpliceLaws.{adds_then}
use Rattle.recorder.proofs.note_close.Goals as goal

pub returns : goal.returns
returns c = adds_then _ _ _ _ _ _ _ _ c.note_shifts-next.ensures c.note_step.ensures

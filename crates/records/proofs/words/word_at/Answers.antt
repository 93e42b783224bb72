use Rattle.std.proofs.Common.{◌∙◌}
use Rattle.records.proofs.WordLaws.{word_read}
use Rattle.records.proofs.words.word_at.Goals as goal

pub returns : goal.returns
returns c = rw c.copy_from_slice.ensures.after at c.from_le_bytes.ensures ∙ word_read c.args.bytes.now c.args.w

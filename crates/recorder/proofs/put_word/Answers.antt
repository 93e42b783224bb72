use Rattle.std.proofs.Common.{◌∙◌, ◌+◌, ◌-◌, arith}
use Rattle.records.specs.Words.{word_bytes, bytes_to}
use Rattle.recorder.proofs.SpliceLaws.{put_spliced, word_low}
use Rattle.recorder.proofs.put_word.Goals as goal

pub returns : goal.returns
returns c = let s = c.args in
    put_spliced s.at (s.at + word_bytes - s.at) _ (bytes_to word_bytes s.word) s.out.now (c.copy_from_slice.ensures.after ∙ c.to_le_bytes.ensures ∙ word_low s.word) (omega arith)

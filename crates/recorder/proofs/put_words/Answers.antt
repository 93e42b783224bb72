use Rattle.std.proofs.Common.{sym}
use Rattle.recorder.proofs.SpliceLaws.{spliced_none, words_turn}
use Rattle.recorder.proofs.put_words.Goals as goal

pub loop-i-init : goal.loop-i-init
loop-i-init c = sym (spliced_none c.args.at c.args.out.now)

pub loop-i-preserved : goal.loop-i-preserved
loop-i-preserved c = words_turn c.args.at c.loop-i.i c.args.words.now _ c.loop-i.out c.args.out.now c.loop-i-test.true c.requires c.loop-i.invariant c.put_word.ensures

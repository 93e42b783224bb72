use Rattle.std.proofs.Common.{sym, ◌∙◌, arith}
use Rattle.tokens.proofs.PastLaws.{past_end, past_stop, past_more}
use Rattle.tokens.proofs.tokens.past.Goals as goal

pub returns-then-not-passes : goal.returns-then-not-passes
returns-then-not-passes g c = λ test h.
    sym (c.loop-i.invariant.so_far test h ∙ past_stop test _ _ c.loop-i-test.true (sym (h _ _ c.passes.ensures) ∙ c.if-not-passes.true))

pub loop-i-preserved : goal.loop-i-preserved
loop-i-preserved g c = record {
  most = omega arith;
  so_far = λ test h.
      c.loop-i.invariant.so_far test h ∙ past_more test _ _ c.loop-i-test.true (sym (h _ _ c.passes.ensures) ∙ c.if-not-passes.false);
}

pub returns : goal.returns
returns g c = λ test h.
    let e = c.loop-i.invariant.so_far test h in
    let f = past_end test c.args.text.now c.loop-i.i c.loop-i-test.false in
    grind arith

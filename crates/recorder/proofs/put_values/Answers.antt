use Rattle.std.proofs.Common.{arith, ◌≡◌, sym, ◌∙◌, length, take, length-take-le, get_or-take}
use Rattle.costs.specs.Cheapest.{value_in}
use Rattle.recorder.specs.Ties.Splicing.{header_bytes}
use Rattle.recorder.proofs.SpliceLaws.{spliced_none, values_turn}
use Rattle.recorder.proofs.put_values.Goals as goal

pub loop-v-init : goal.loop-v-init
loop-v-init c = sym (spliced_none header_bytes c.args.out.now)

pub loop-v-preserved : goal.loop-v-preserved
loop-v-preserved c = let s = c.args in
    let many : length (take s.vars s.plan.now) ≡ s.vars = length-take-le s.vars s.plan.now (omega (arith, c.requires)) in
    c.put_word.ensures ∙ values_turn c.loop-v.v _ (value_in s.plan.now) _ _ (omega (arith, many, c.requires)) c.loop-v.invariant (c.from.ensures ∙ get_or-take s.vars s.plan.now c.loop-v.v 0 (omega (arith, many)))

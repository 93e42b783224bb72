use Rattle.std.proofs.Common.{◌≡◌, ◌+◌, ◌∙◌, sym, ◌-◌, arith, rules}
use Rattle.headings.proofs.DomainLaws.{domains_stop, domains_more, domains_end, size_read}
use Rattle.headings.proofs.domains.read_domains.Goals as goal

pub returns-in_err-d : goal.returns-in_err-d
returns-in_err-d c = rw (c.loop-v.invariant.so_far, domains_stop _ (c.args.vars - c.loop-v.v) (c.args.vars - 1 - c.loop-v.v) _ _ _ _ _ _ (omega arith) _ c.read_size.ensures _ c.in_err-d.was) (search rules)

pub overflow_cast-sizes : goal.overflow_cast-sizes
overflow_cast-sizes c = omega (arith, size_read _ _ _ _ _ _ _ c.read_size.ensures _ c.in_ok-d.was)

pub overflow_add-entries : goal.overflow_add-entries
overflow_add-entries c = omega (arith, size_read _ _ _ _ _ _ _ c.read_size.ensures _ c.in_ok-d.was)

pub loop-v-preserved : goal.loop-v-preserved
loop-v-preserved c =
    let m = size_read _ _ _ _ _ _ _ c.read_size.ensures _ c.in_ok-d.was in
    let q : c.args.vars - (c.loop-v.v + 1) ≡ c.args.vars - 1 - c.loop-v.v = omega arith in
    record {
      few = omega arith;
      so_far = rw q (c.loop-v.invariant.so_far ∙ domains_more _ (c.args.vars - c.loop-v.v) (c.args.vars - 1 - c.loop-v.v) _ _ _ _ _ _ (omega arith) _ c.read_size.ensures _ _ c.in_ok-d.was (search rules));
    }

pub returns : goal.returns
returns c = sym (c.loop-v.invariant.so_far ∙ domains_end _ _ _ _ _ _ _ _ (omega arith))

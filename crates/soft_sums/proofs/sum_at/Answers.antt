use Rattle.std.proofs.Common.{◌≡◌, ◌+◌, ◌-◌, length, arith}
use Rattle.std.proofs.lemmas.Iterator.Adapters.{YieldsList-from_rev_slice}
use Rattle.std.proofs.lemmas.Iterator.Consumers.{YieldsList-turn}
use Rattle.std.proofs.lemmas.List.{length_push}
use Rattle.soft_sums.proofs.SoftLaws.{sum_none, sum_more, from_end, value_small}
use Rattle.soft_sums.proofs.sum_at.Goals as goal

pub loop-d-init : goal.loop-d-init
loop-d-init c =
    let s = sum_none c.args.ds.sizes.now (length c.args.ds.sizes.now - 0) c.args.entry (omega arith) in
    record { goes = (tt, tt); few = omega arith; over = s.0; so_far = s.1 }

pub overflow_add-sum : goal.overflow_add-sum
overflow_add-sum c =
    let d = from_end c.args.ds.sizes.now (length c.loop-d.yielded) c.in-Some.d.now (YieldsList-turn (YieldsList-from_rev_slice c.args.ds.sizes.now cc) c.loop-d.yielded _ c.loop-d.yielded_by _ _ c.in-Some.d c.in-Some.is c.next.ensures.steps) in
    omega (arith, d.0, value_small _ _ _ c.loop-d.rest c.args.ds.small d, c.args.ds.small.few)

pub loop-d-preserved : goal.loop-d-preserved
loop-d-preserved c =
    let d = from_end c.args.ds.sizes.now (length c.loop-d.yielded) c.in-Some.d.now (YieldsList-turn (YieldsList-from_rev_slice c.args.ds.sizes.now cc) c.loop-d.yielded _ c.loop-d.yielded_by _ _ c.in-Some.d c.in-Some.is c.next.ensures.steps) in
    let s = sum_more c.args.ds.sizes.now (length c.args.ds.sizes.now - length c.loop-d.yielded) (length c.args.ds.sizes.now - 1 - length c.loop-d.yielded) c.args.entry c.loop-d.rest c.loop-d.sum (omega (arith, d.0)) (omega (arith, d.0)) c.loop-d.invariant.over c.loop-d.invariant.so_far in
    let q : length c.args.ds.sizes.now - (length c.loop-d.yielded + 1) ≡ length c.args.ds.sizes.now - 1 - length c.loop-d.yielded = omega arith in
    record {
      goes = (tt, tt);
      few = omega (arith, length_push c.loop-d.yielded c.in-Some.d, value_small _ _ _ c.loop-d.rest c.args.ds.small d);
      over = rw (length_push c.loop-d.yielded c.in-Some.d, q, d.1) s.0;
      so_far = rw (length_push c.loop-d.yielded c.in-Some.d, q, d.1) s.1;
    }

use Rattle.std.proofs.Common.{◌≡◌, ◌-◌, ◌*◌, ◌/◌, ◌≤◌, length, drop}
use Rattle.costs.specs.Limits.{size_most}
use Rattle.stretches.specs.Sizes.{product}
use Rattle.soft_sums.specs.Soft.{values_at, total}
use Rattle.soft_sums.proofs.sum_at.Given as goal

abbrev pub invariant-loop-d : goal.invariant-loop-d
invariant-loop-d l = record {
  goes : (goal.iterator-loop-d).can_next l.d-iterator × (goal.iterator-loop-d).is_finite l.d-iterator;
  few : l.sum ≤ length l.yielded * size_most;
  over : l.rest ≡ l.entry / product (drop (length l.ds.sizes.now - length l.yielded) l.ds.sizes.now);
  so_far : l.sum ≡ total (values_at (drop (length l.ds.sizes.now - length l.yielded) l.ds.sizes.now) l.entry);
}

use Rattle.costs.specs.Limits.{vars_most}
use Rattle.records.specs.Records.{told}
use Rattle.records.specs.Words.{word_at}
use Rattle.std.proofs.Common.{ℕ, ◌≡◌, ◌<◌, length, get_or}
use Rattle.desk.proofs.values.plan_told.Given as goal

abbrev pub invariant-loop-v : goal.invariant-loop-v
invariant-loop-v l = record {
  whole : length l.choice ≡ vars_most;
  same : (w : ℕ) → w < l.v → get_or l.choice w 0 ≡ told (word_at l.bytes) w;
}

use Rattle.records.specs.Records.{told}
use Rattle.records.specs.Words.{word_at}
use Rattle.std.proofs.Common.{ℕ, ◌<◌, get_or}
use Rattle.desk.proofs.values.values_fault.Given as goal

abbrev pub invariant-loop-v : goal.invariant-loop-v
invariant-loop-v l = (w : ℕ) → w < l.v → told (word_at l.bytes) w < get_or l.net.sizes w 0

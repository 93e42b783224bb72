use Rattle.std.proofs.Common.{length, take, ◌-◌, ◌≡◌, ◌≤◌}
use Rattle.std.specs.Io.KnownBytes.{Consumes}
use Rattle.console.proofs.read_in.Given as goal

-- what stands at the buffer's front is what the reader has lost
abbrev pub invariant-loop-many : goal.invariant-loop-many
invariant-loop-many g l =
    (length l.buffer ≡ length l.initial.buffer) × (l.many ≤ length l.buffer) × Consumes (g.R.Read.remaining l.initial.from) (g.R.Read.remaining l.from) (take l.many l.buffer)

abbrev pub decreases-loop-many : goal.decreases-loop-many
decreases-loop-many g l = length l.initial.buffer - l.many

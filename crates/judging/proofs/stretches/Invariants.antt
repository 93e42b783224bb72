use Rattle.std.proofs.Common.{ℕ, ◌≤◌, ◌<◌, ◌+◌, ◌*◌, ◌^◌, ◌≡◌, get_or}
use Rattle.costs.specs.Limits.{size_most}
use Rattle.costs.specs.Networks.{function_start}
use Rattle.judging.proofs.stretches.Given as goal

abbrev pub invariant-loop-f : goal.invariant-loop-f
invariant-loop-f l = (l.at ≡ function_start l.net.vars l.net.sizes l.net.scopes l.f) × (l.at ≤ l.net.vars * size_most + l.f * size_most ^ 3) × ((g : ℕ) → g < l.f → get_or l.net.starts g 0 ≡ function_start l.net.vars l.net.sizes l.net.scopes g)

use Rattle.std.proofs.Common.{◌≡◌, take}
use Rattle.scopes.specs.Scopes.{scope_sizes}
use Rattle.scopes.proofs.fill_sizes.Given as goal

abbrev pub invariant-loop-j : goal.invariant-loop-j
invariant-loop-j l = take l.j l.dims ≡ scope_sizes l.sizes (take l.j l.variables)

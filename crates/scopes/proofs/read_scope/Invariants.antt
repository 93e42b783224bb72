use Rattle.std.proofs.Common.{◌≡◌, ◌-◌, ◌^◌, ◌≤◌, take, []}
use Rattle.costs.specs.Limits.{size_most}
use Rattle.stretches.specs.Sizes.{product}
use Rattle.tokens.specs.Tokens.{text_of}
use Rattle.scopes.specs.Scopes.{scope_sizes, scope}
use Rattle.scopes.proofs.read_scope.Given as goal

abbrev pub invariant-loop-j : goal.invariant-loop-j
invariant-loop-j l = record {
  few : l.many ≤ size_most ^ l.j;
  tuples : l.many ≡ product (scope_sizes l.sizes (take l.j l.variables));
  so_far : scope l.vars l.sizes l.entries l.arity [] (text_of l.text) l.at
      ≡ scope l.vars l.sizes l.entries (l.arity - l.j) (take l.j l.variables) (text_of l.text) l.next;
}

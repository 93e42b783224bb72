use Rattle.std.proofs.Common.{◌≡◌, ◌+◌, ◌-◌, ◌≤◌, take, add-one, refl, sym, ◌∙◌, ap, arith, rules, take-suc-set}
use Rattle.costs.specs.Limits.{size_most}
use Rattle.stretches.specs.Sizes.{product}
use Rattle.stretches.proofs.SizeLaws.{few_more, few_most}
use Rattle.tokens.specs.Ties.Outcomes.{num_is}
use Rattle.scopes.proofs.ScopeLaws.{scope_stop, scope_more, scope_end, tuples_with, variable_known}
use Rattle.scopes.proofs.read_scope.Goals as goal

pub loop-j-init : goal.loop-j-init
unfolding product
loop-j-init c =
    let z : c.args.arity - 0 ≡ c.args.arity = omega arith in
    record { few = omega arith; tuples = refl; so_far = rw z refl }

pub read_variable-requires-clause-tuples : goal.read_variable-requires-clause-tuples
read_variable-requires-clause-tuples c =
    (few_most _ c.loop-j.j 2 (omega arith) c.loop-j.invariant.few, c.loop-j.invariant.tuples, c.requires.arity_le_arity_most.2)

pub returns-in_err-x : goal.returns-in_err-x
returns-in_err-x c = rw (
  c.loop-j.invariant.so_far,
  scope_stop _ _ _ (c.args.arity - c.loop-j.j) (c.args.arity - 1 - c.loop-j.j) _ _ _ (omega arith) _ c.read_variable.ensures _ c.in_err-x.was,
) (search rules)

pub overflow_mul-many : goal.overflow_mul-many
overflow_mul-many c =
    let s : c.byte_in.result ≤ size_most = rw c.byte_in.ensures (c.requires.ranged.small _) in
    omega (arith, few_most _ (c.loop-j.j + 1) 3 (omega arith) (few_more c.loop-j.many _ c.loop-j.j s c.loop-j.invariant.few))

pub overflow_cast-variables : goal.overflow_cast-variables
overflow_cast-variables c = omega (arith, c.requires.ranged.vars_few, (variable_known _ _ _ _ _ _ _ _ _ (ap num_is (sym c.in_ok-x.was) ∙ c.read_variable.ensures)).0)

pub loop-j-preserved : goal.loop-j-preserved
loop-j-preserved c =
    let x = c.in_ok-x.x.value in
    let t = take-suc-set c.loop-j.variables c.loop-j.j x (omega arith) in
    let q : c.args.arity - (c.loop-j.j + 1) ≡ c.args.arity - 1 - c.loop-j.j = omega arith in
    record {
      few = rw c.byte_in.ensures (few_more c.loop-j.many _ c.loop-j.j (c.requires.ranged.small x) c.loop-j.invariant.few);
      tuples = rw (add-one, t) (sym (tuples_with c.args.sizes.now (take c.loop-j.j c.loop-j.variables) x c.loop-j.many c.byte_in.result c.loop-j.invariant.tuples c.byte_in.ensures));
      so_far = rw (q, add-one, t) (c.loop-j.invariant.so_far ∙ scope_more _ _ _ (c.args.arity - c.loop-j.j) (c.args.arity - 1 - c.loop-j.j) _ _ _ (omega arith) _ c.read_variable.ensures _ c.in_ok-x.was);
    }

pub returns : goal.returns
returns c =
    let e : c.args.arity ≡ c.loop-j.j = omega arith in
    sym (c.loop-j.invariant.so_far ∙ scope_end _ _ _ (c.args.arity - c.loop-j.j) _ _ _ (omega arith) ∙ rw e)

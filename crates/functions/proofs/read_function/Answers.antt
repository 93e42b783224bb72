use Rattle.std.proofs.Common.{arith, rules, ◌≡◌, sym, ap, ◌∙◌, length, take, length-take-le}
use Rattle.tokens.specs.Steps.{and_then}
use Rattle.tokens.specs.Ties.Outcomes.{num_is, pos_is}
use Rattle.tokens.proofs.NumberLaws.{in_range}
use Rattle.scopes.proofs.ScopeLaws.{scope_known}
use Rattle.functions.specs.Functions.{function}
use Rattle.functions.proofs.read_function.Goals as goal

pub read_scope-requires-clause-arity_le_arity_most : goal.read_scope-requires-clause-arity_le_arity_most
read_scope-requires-clause-arity_le_arity_most c = let l = in_range _ _ _ _ _ _ (ap num_is (sym c.in_ok-found.was) ∙ c.number_in.ensures) in
    (l.1, l.1, c.args.draft.now.few)

pub returns-in_err-next : goal.returns-in_err-next
unfolding function and_then
returns-in_err-next c =
    let s = c.args.draft.now in
    let e : length (take s.entries s.table) ≡ s.entries = length-take-le _ _ (omega (arith, s.few, s.long)) in
    rw (← c.number_in.ensures, c.in_ok-found.was, e, ← c.read_scope.ensures, c.in_err-next.was) (search rules)

pub slice_bounds-variables-end : goal.slice_bounds-variables-end
slice_bounds-variables-end c = let l = in_range _ _ _ _ _ _ (ap num_is (sym c.in_ok-found.was) ∙ c.number_in.ensures) in
    omega (arith, l.1, c.read_scope.auto.variables)

pub slice_bounds-read_placed-end : goal.slice_bounds-read_placed-end
slice_bounds-read_placed-end c = let l = in_range _ _ _ _ _ _ (ap num_is (sym c.in_ok-found.was) ∙ c.number_in.ensures) in
    sym (length-take-le _ _ (omega (arith, l.1, c.read_scope.auto.variables)))

pub read_placed-requires-clause-told : goal.read_placed-requires-clause-told
read_placed-requires-clause-told c =
    let l = in_range _ _ _ _ _ _ (ap num_is (sym c.in_ok-found.was) ∙ c.number_in.ensures) in
    let n = c.in_ok-found.found.value in
    let e = length-take-le n c.read_scope.new.variables (omega (arith, l.1, c.read_scope.auto.variables)) in
    let s = scope_known _ _ _ _ _ _ _ _ _ (ap (λ r. pos_is r (take n c.read_scope.new.variables)) (sym c.in_ok-next.was) ∙ c.read_scope.ensures) in
    record { few = omega (arith, e, l.1); known = s.known tt; room = λ two. s.room (omega (arith, e)) two }

pub returns : goal.returns
unfolding function and_then
returns c =
    let s = c.args.draft.now in
    let e : length (take s.entries s.table) ≡ s.entries = length-take-le _ _ (omega (arith, s.few, s.long)) in
    rw (← c.number_in.ensures, c.in_ok-found.was, e, ← c.read_scope.ensures, c.in_ok-next.was) c.read_placed.ensures

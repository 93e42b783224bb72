use Rattle.std.proofs.Common.{◌≡◌, ◌&&◌, not, true, ltb, length, rules, tests}
use Rattle.std.proofs.Math.Bool.{or_assoc}
use Rattle.costs.specs.Tests.{among}
use Rattle.tokens.specs.Steps.{and_then, demand, at_last}
use Rattle.scopes.specs.Scopes.{variable}
use Rattle.scopes.proofs.ScopeLaws.{tuples_with}
use Rattle.scopes.proofs.read_variable.Goals.{then-left-gt0-via-then-left-gt0, then-left-gt0-via-else-left-gt0+then-first}
use Rattle.scopes.proofs.read_variable.Goals as goal

pub returns-then-left-gt0 : goal.returns-then-left-gt0
unfolding variable and_then demand
returns-then-left-gt0 c =
    let few : at_last c.args.left (ltb (length c.args.others.now) 1) ≡ true = elim c.then-left-gt0.branch [
      | then-left-gt0-via-then-left-gt0 w ↦ search (tests, rules)
      | then-left-gt0-via-else-left-gt0+then-first w ↦ search (tests, rules)
    ] in
    let known : ltb c.in_ok-x.x.value c.args.domains.vars && not (among c.in_ok-x.x.value c.args.others.now) ≡ true = search (tests, rules) in
    rw (← c.any_number.ensures, c.in_ok-x.was, known, ← or_assoc, few)

pub returns-then-domains-many-gt-ENTRIES : goal.returns-then-domains-many-gt-ENTRIES
unfolding variable and_then demand
returns-then-domains-many-gt-ENTRIES c =
    rw (← c.any_number.ensures, c.in_ok-x.was, tuples_with _ _ _ _ _ c.requires.tuples.1 c.byte_in-size.ensures) (search (tests, rules))

pub returns : goal.returns
unfolding variable and_then demand
returns c =
    rw (← c.any_number.ensures, c.in_ok-x.was, tuples_with _ _ _ _ _ c.requires.tuples.1 c.byte_in-size.ensures) (search (tests, rules))

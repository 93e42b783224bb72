use Rattle.std.proofs.Common.{rules, tests, eqb, ◌∙◌}
use Rattle.std.proofs.lemmas.Iterator.{YieldsList-from_slice}
use Rattle.std.proofs.lemmas.Iterator.Search.{any_from_yields_List}
use Rattle.scopes.proofs.ScopeLaws.{among_any}
use Rattle.scopes.proofs.is_among.Goals as goal

pub returns : goal.returns
returns c =
    any_from_yields_List (λ v. eqb c.args.x v) _ _ _ c.any.ensures.ran (YieldsList-from_slice c.args.variables.now cc) (λ x b q k. search (rules, tests))
    ∙ among_any c.args.x c.args.variables.now

use Rattle.std.proofs.Common.{◌∙◌, rules, tests, eqb}
use Rattle.std.proofs.lemmas.Iterator.{YieldsList-from_slice}
use Rattle.std.proofs.lemmas.Iterator.Search.{any_from_yields_List}
use Rattle.shifting.proofs.SiteMoves.{any_among}
use Rattle.shifting.proofs.moves.in_scope.Goals as goal

pub returns : goal.returns
returns c =
    any_from_yields_List (λ v. eqb v c.args.i) _ _ _ c.any.ensures.ran (YieldsList-from_slice _ (c.iter.ensures.rest ∙ c.scope.ensures)) (λ x b q k. search (rules, tests))
    ∙ any_among c.args.i _

use Rattle.std.proofs.Common.{rules, tests}
use Rattle.std.proofs.lemmas.Iterator.{YieldsList-from_slice}
use Rattle.std.proofs.lemmas.Iterator.Search.{all_from_yields_List}
use Rattle.costs.specs.Tests.{between}
use Rattle.tokens.specs.TextLimits.{name_byte_least, name_byte_most}
use Rattle.tokens.specs.Names.{is_name}
use Rattle.tokens.proofs.NameLaws.{every_list_all}
use Rattle.tokens.proofs.names.is_name.Goals as goal

pub returns-then-contains : goal.returns-then-contains
unfolding is_name
returns-then-contains c =
    let e = all_from_yields_List (between name_byte_least name_byte_most) _ _ c.all.result c.all.ensures.ran (YieldsList-from_slice c.args.w.now cc) (λ x b q k. search (rules, tests)) in
    let f = every_list_all (between name_byte_least name_byte_most) c.args.w.now in
    search (tests, rules)

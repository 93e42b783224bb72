use Rattle.std.proofs.Common.{rules, ◌++◌, ap, ◌∙◌}
use Rattle.lines.specs.Lines.{written}
use Rattle.lines.proofs.NumeralLaws.{fewest_shortest, fewest_most}
use Rattle.lines.proofs.Lines.with_number.Goals as goal

pub returns-clause-says : goal.returns-clause-says
returns-clause-says c =
    let d = c.decimal-many in
    let few = fewest_most d.result c.args.n (search rules) d.ensures.len in
    c.with_word.ensures.says ∙ ap (λ xs. written c.args.self ++ xs) (d.ensures.digits ∙ fewest_shortest 20 d.result c.args.n d.ensures.len few)

use Rattle.std.specs.Prelude.{◌≡◌, ◌+◌, ◌-◌, ◌≤◌}
use Rattle.costs.specs.Limits.{functions_most}
use Rattle.tokens.specs.Tokens.{text_of}
use Rattle.placing.specs.Ties.Sheets.{drafted, Stays}
use Rattle.functions.specs.Functions.{functions}
use Rattle.functions.proofs.read_functions.Given as goal

abbrev pub invariant-loop : goal.invariant-loop
invariant-loop l = (l.draft.network.functions + (l.many - l.counter) ≤ functions_most)
    × (functions l.many (drafted l.initial.draft) (text_of l.text) l.at ≡ functions (l.many - l.counter) (drafted l.draft) (text_of l.text) l.next)
    × Stays l.initial.draft l.draft

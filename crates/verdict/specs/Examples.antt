-- Document 01's lines, computed from the definitions: of whole texts, and of a search that was ended.
use Rattle.std.specs.Prelude.{ℕ, ◌≡◌, refl, List, [], ◌∷◌, Err}
use Rattle.answers.specs.declared.Refusal.TheVariants.{OverBudget}
use Rattle.costs.specs.Cost.{minus}
use Rattle.costs.specs.Limits.{vars_most}
use Rattle.costs.specs.PaperNetworks.{padded}
use Rattle.judging.specs.Judging.{ranges_good, sizes_good, variables_good, row_good, scopes_good, stretches_good, costs_good, is_network, judged}
use Rattle.tokens.specs.Tokens.{white, dark, lead, past, token_at, token_bytes, text_of}
use Rattle.tokens.specs.Steps.{and_then, demand}
use Rattle.tokens.specs.Numbers.{digits, value_of, any_number, number_in}
use Rattle.tokens.specs.Names.{is_name}
use Rattle.tokens.specs.Words.{name, same, follows, finish}
use Rattle.stretches.specs.Sizes.{product}
use Rattle.scopes.specs.Scopes.{variable, scope}
use Rattle.listed_costs.specs.Listed.{value, tuple, listing, settled, listed}
use Rattle.function_costs.specs.FunctionCosts.{costs}
use Rattle.placing.specs.Drafts.{sums}
use Rattle.functions.specs.Functions.{function, functions}
use Rattle.headings.specs.Headers.{header}
use Rattle.headings.specs.Domains.{size, domains}
use Rattle.reader.specs.Reading.{rest, body, network, reading}
use Rattle.boxes.specs.Places.{in_stretch}
use Rattle.shifts.specs.Nodes.{fixing, least}
use Rattle.shifts.specs.Moves.{shifted}
use Rattle.passes.specs.Passing.{pass}
use Rattle.engines.specs.Engines.{budget, visit}
use Rattle.engines.specs.Results.{leaves_of}
use Rattle.visiting.specs.FirstSearch.{first_look}
use Rattle.search.specs.Doors.{search_of}
use Rattle.lines.specs.Numerals.{shortest}
use Rattle.lines.specs.Lines.{choices_to}
use Rattle.verdict.specs.Verdicts.{searched_lines, printed}

-- a text, and what is printed of it
record Example : Type 0 where
  text : List ℕ
  lines : List ℕ

-- network A: "for A `cost 1`, `plan 0 1 1`, `nodes 9`"
abbrev network_a : Example
network_a = record {
  text = 112 ∷ 108 ∷ 97 ∷ 110 ∷ 32 ∷ 51 ∷ 32 ∷ 50 ∷ 32 ∷ 52 ∷ 32 ∷ 49 ∷ 48 ∷ 10 ∷ 50 ∷ 32 ∷ 50 ∷ 32 ∷ 50 ∷ 10 ∷ 49 ∷ 32 ∷ 48 ∷ 32 ∷ 48 ∷ 32 ∷ 49 ∷ 10 ∷ 49 ∷ 32 ∷ 51 ∷ 10 ∷ 50 ∷ 32 ∷ 48 ∷ 32 ∷ 49 ∷ 32 ∷ 48 ∷ 32 ∷ 50 ∷ 10 ∷ 48 ∷ 32 ∷ 48 ∷ 32 ∷ 53 ∷ 10 ∷ 49 ∷ 32 ∷ 49 ∷ 32 ∷ 53 ∷ 10 ∷ 50 ∷ 32 ∷ 49 ∷ 32 ∷ 50 ∷ 32 ∷ 48 ∷ 32 ∷ 49 ∷ 10 ∷ 49 ∷ 32 ∷ 48 ∷ 32 ∷ 52 ∷ 10 ∷ 48 ∷ 32 ∷ 49 ∷ 32 ∷ 48 ∷ [];
  lines = 99 ∷ 111 ∷ 115 ∷ 116 ∷ 32 ∷ 49 ∷ 10 ∷ 112 ∷ 108 ∷ 97 ∷ 110 ∷ 32 ∷ 48 ∷ 32 ∷ 49 ∷ 32 ∷ 49 ∷ 10 ∷ 110 ∷ 111 ∷ 100 ∷ 101 ∷ 115 ∷ 32 ∷ 57 ∷ 10 ∷ [];
}

-- network B: "The program prints `cost 4`, `plan 0`, `nodes 3`, a line each"
abbrev network_b : Example
network_b = record {
  text = 111 ∷ 110 ∷ 101 ∷ 32 ∷ 49 ∷ 32 ∷ 50 ∷ 32 ∷ 49 ∷ 32 ∷ 57 ∷ 10 ∷ 50 ∷ 10 ∷ 49 ∷ 32 ∷ 48 ∷ 32 ∷ 52 ∷ 32 ∷ 49 ∷ 10 ∷ 49 ∷ 32 ∷ 54 ∷ [];
  lines = 99 ∷ 111 ∷ 115 ∷ 116 ∷ 32 ∷ 52 ∷ 10 ∷ 112 ∷ 108 ∷ 97 ∷ 110 ∷ 32 ∷ 48 ∷ 10 ∷ 110 ∷ 111 ∷ 100 ∷ 101 ∷ 115 ∷ 32 ∷ 51 ∷ 10 ∷ [];
}

-- network C: "Printed: `none 5`, `nodes 1`."
abbrev network_c : Example
network_c = record {
  text = 110 ∷ 111 ∷ 110 ∷ 101 ∷ 32 ∷ 49 ∷ 32 ∷ 49 ∷ 32 ∷ 49 ∷ 32 ∷ 53 ∷ 10 ∷ 49 ∷ 10 ∷ 49 ∷ 32 ∷ 48 ∷ 32 ∷ 53 ∷ 32 ∷ 48 ∷ [];
  lines = 110 ∷ 111 ∷ 110 ∷ 101 ∷ 32 ∷ 53 ∷ 10 ∷ 110 ∷ 111 ∷ 100 ∷ 101 ∷ 115 ∷ 32 ∷ 49 ∷ 10 ∷ [];
}

-- `x 0 0 1 9 | 0 3 0`: "With N = 0 the plan line is `plan`."
abbrev no_variable : Example
no_variable = record {
  text = 120 ∷ 32 ∷ 48 ∷ 32 ∷ 48 ∷ 32 ∷ 49 ∷ 32 ∷ 57 ∷ 10 ∷ 48 ∷ 32 ∷ 51 ∷ 32 ∷ 48 ∷ [];
  lines = 99 ∷ 111 ∷ 115 ∷ 116 ∷ 32 ∷ 51 ∷ 10 ∷ 112 ∷ 108 ∷ 97 ∷ 110 ∷ 10 ∷ 110 ∷ 111 ∷ 100 ∷ 101 ∷ 115 ∷ 32 ∷ 49 ∷ 10 ∷ [];
}

-- "A refusal prints `refused 2 at 0` alone (here: empty text)."
abbrev empty : Example
empty = record {
  text = [];
  lines = 114 ∷ 101 ∷ 102 ∷ 117 ∷ 115 ∷ 101 ∷ 100 ∷ 32 ∷ 50 ∷ 32 ∷ 97 ∷ 116 ∷ 32 ∷ 48 ∷ 10 ∷ [];
}

abbrev Right : List Example → Type 0
Right [] = Unit {0}
Right (x ∷ xs) = (printed x.text ≡ x.lines) × Right xs

examples : Right (network_a ∷ network_b ∷ network_c ∷ no_variable ∷ empty ∷ [])
unfolding white dark lead past token_at token_bytes text_of and_then demand digits value_of any_number number_in is_name name same follows finish header size domains product variable scope value tuple listing settled listed costs sums function functions rest body network reading ranges_good sizes_good variables_good row_good scopes_good stretches_good costs_good is_network judged minus in_stretch fixing least shifted pass budget visit leaves_of first_look search_of shortest choices_to
examples = (refl, (refl, (refl, (refl, (refl, tt)))))

-- "more nodes needed than the budget": a search that ended without a result prints its refusal
lines_over : searched_lines 9 (record { answer = Err OverBudget; cost = 0; plan = record { choice = padded vars_most []; len = 0 }; nodes = 0 }) ≡ 114 ∷ 101 ∷ 102 ∷ 117 ∷ 115 ∷ 101 ∷ 100 ∷ 32 ∷ 49 ∷ 49 ∷ 32 ∷ 97 ∷ 116 ∷ 32 ∷ 48 ∷ 10 ∷ []
unfolding shortest choices_to
lines_over = refl

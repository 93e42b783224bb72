-- What should be printed: of a text that spells a network the right answer for that network, of any other text its refusal.
use Rattle.std.specs.Prelude.{ℕ, ◌≤◌, ◌<◌, ◌≡◌, ◌⊎◌, List, ◌++◌, length, Err}
use Rattle.answers.specs.Answers.{refusal_number}
use Rattle.answers.specs.declared.Refusal.{Refusal}
use Rattle.answers.specs.declared.Refusal.TheVariants.{OverBudget}
use Rattle.costs.specs.Limits.{entries_most}
use Rattle.costs.specs.Net.{Net, Costs, costs_of}
use Rattle.costs.specs.Networks.{stands}
use Rattle.costs.specs.Cheapest.{NonePayable, Cheapest}
use Rattle.tokens.specs.Steps.{got, refused}
use Rattle.placing.specs.Drafts.{Draft}
use Rattle.reader.specs.Reading.{reading}
use Rattle.reader.specs.Said.{SaidBy}
use Rattle.visiting.specs.FirstSearch.{nodes_needed}
use Rattle.lines.specs.Numerals.{numeral}
use Rattle.lines.specs.Lines.{cost_word, none_word, plan_word, nodes_word, line_end, refusal_line, choices_to}
use Rattle.verdict.specs.Verdicts.{program_budget}

-- "The program prints `cost 4`, `plan 0`, `nodes 3`, a line each": the cheapest plan below k, the first of ties
pub record TellsCheapest (n : Net) (held : Costs) (lines : List ℕ) : Type 0 where
  pub plan : List ℕ
  pub cost : ℕ
  pub right : Cheapest n held plan cost
  pub told : lines ≡ cost_word ++ numeral cost ++ plan_word ++ choices_to (length plan) plan ++ nodes_word ++ numeral (nodes_needed n held) ++ line_end

-- "Printed: `none 5`, `nodes 1`": every plan reaches k
pub record TellsNone (n : Net) (held : Costs) (lines : List ℕ) : Type 0 where
  pub right : NonePayable n held
  pub told : lines ≡ none_word ++ numeral n.top ++ nodes_word ++ numeral (nodes_needed n held) ++ line_end

-- what is told of a network: its answer, or 11 where "more nodes" are "needed than the budget", and only there
pub data TellsNetwork (n : Net) (held : Costs) (lines : List ℕ) : Type 0 where
  cheapest : nodes_needed n held ≤ program_budget → TellsCheapest n held lines → TellsNetwork n held lines
  none_payable : nodes_needed n held ≤ program_budget → TellsNone n held lines → TellsNetwork n held lines
  over_budget : program_budget < nodes_needed n held → lines ≡ refusal_line (Err OverBudget) → TellsNetwork n held lines

-- a text that spells a network: `draft` is its numbers and costs, by which a plan's price is what the text says of it, function by function
pub record TellsAnswer (text lines : List ℕ) : Type 0 where
  pub draft : Draft
  pub end : ℕ
  pub reads : reading text entries_most ≡ got draft end
  pub said : SaidBy text draft.net draft.table
  pub answer : TellsNetwork (stands draft.net) (costs_of draft.net.constant draft.table) lines

-- any other text: 1 to 6, for 7 and 8 are of lent tables and numbers
pub record TellsRefusal (text lines : List ℕ) : Type 0 where
  pub why : Refusal
  pub refuses : reading text entries_most ≡ refused why
  pub of_text : (1 ≤ refusal_number why) × (refusal_number why ≤ 6)
  pub told : lines ≡ refusal_line (Err why)

abbrev pub RightLines : List ℕ → List ℕ → Type 0
RightLines text lines = TellsAnswer text lines ⊎ TellsRefusal text lines

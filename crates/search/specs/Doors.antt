-- What `search` hands back, and what the record's buffer then holds.
use Rattle.std.specs.Prelude.{ℕ, ◌≡◌, Bool, List}
use Rattle.answers.specs.Answers.{Done}
use Rattle.costs.specs.declared.networks.Network.{Network}
use Rattle.costs.specs.Net.{costs_of}
use Rattle.costs.specs.Networks.{stands}
use Rattle.costs.specs.Cheapest.{RightAnswer}
use Rattle.records.specs.declared.steps.Step.{Step}
use Rattle.records.specs.Words.{word_at}
use Rattle.records.specs.Steps.{step_at}
use Rattle.records.specs.Rules.{nodes_in}
use Rattle.records.specs.Records.{Reads}
use Rattle.engines.specs.declared.results.Searched.{Searched}
use Rattle.engines.specs.Engines.{State, budget, searched}
use Rattle.engines.specs.Results.{SearchLeft, planned, record_bytes, leaves_of}
use Rattle.visiting.specs.FirstSearch.{first_engine, whole_search, nodes_needed}

-- the search of a network with a budget
unfoldable pub search_of : Network → List ℕ → ℕ → State
search_of net held limit = searched (first_engine (stands net) (costs_of net.constant held)) (budget limit)

-- what the call leaves, where `work` and `out` are the lengths of the working table and of the record's buffer
abbrev pub search_leaves : Network → List ℕ → ℕ → ℕ → Bool → ℕ → SearchLeft
search_leaves net held work out asked limit = leaves_of net held work out asked (search_of net held limit)

-- "whole record longer than the lent buffer": the whole record
abbrev pub whole_record : Network → List ℕ → List ℕ
whole_record net held = record_bytes (stands net) (whole_search (stands net) (costs_of net.constant held))

-- what is handed back is a success, with the right answer and the count of the nodes that are needed
pub record FoundRight (net : Network) (held : List ℕ) (r : Searched) : Type 0 where
  pub answer : r.answer ≡ Done
  pub values : List ℕ
  pub plan : r.plan ≡ planned values
  pub right : RightAnswer (stands net) (costs_of net.constant held) values r.cost
  pub nodes : r.nodes ≡ nodes_needed (stands net) (costs_of net.constant held)

-- "The node count equals the branch and close steps of the record": of the steps that anyone reads in the buffer, from where its header says, as many as it says
pub record CountsSteps (out : List ℕ) (nodes : ℕ) : Type 0 where
  pub steps : List Step
  pub reads : Reads (step_at (word_at out)) (word_at out 7) (word_at out 6) steps
  pub count : nodes ≡ nodes_in steps

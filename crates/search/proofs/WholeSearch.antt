-- What the search without a budget comes to, in a network that calls are lent. Assumes nothing.
use Rattle.std.proofs.Common.{ℕ, ◌≡◌, refl, List}
use Rattle.answers.specs.Answers.{Done}
use Rattle.costs.specs.declared.networks.Network.{Network}
use Rattle.costs.specs.Net.{Sound, costs_of}
use Rattle.costs.specs.Networks.{stands}
use Rattle.costs.specs.Cheapest.{RightAnswer}
use Rattle.judging.proofs.JudgeLaws.{network_sound}
use Rattle.judging.specs.Judging.{Lent}
use Rattle.records.specs.Trees.{root}
use Rattle.records.specs.Rules.{claim_of, Keeps, nodes_in}
use Rattle.engines.specs.Engines.{never, begin}
use Rattle.engines.proofs.BudgetLaws.{visit-never}
use Rattle.visiting.specs.FirstSearch.{first_engine, whole_search, nodes_needed}
use Rattle.visiting.proofs.FirstSearchRight.{first_answer, first_keeps, first_count}

-- nothing ends it
pub whole_ends : (net : Network) (held : List ℕ) → (whole_search (stands net) (costs_of net.constant held)).ended ≡ Done
whole_ends net held = visit-never (first_engine (stands net) (costs_of net.constant held)) _ (root (stands net)) (begin net.top) refl

module _ (net : Network) (held : List ℕ) (room : ℕ) (lent : Lent net held room) where
  sound : Sound (stands net)
  sound = network_sound net held lent.network

  pub whole_answer : RightAnswer (stands net) (costs_of net.constant held) (whole_search (stands net) (costs_of net.constant held)).plan (whole_search (stands net) (costs_of net.constant held)).best
  whole_answer = first_answer (stands net) sound (costs_of net.constant held) lent.network.ready.constant_most lent.network.top_some never (whole_ends net held)

  pub whole_keeps : Keeps (claim_of (stands net) (costs_of net.constant held) (whole_search (stands net) (costs_of net.constant held)).best) (whole_search (stands net) (costs_of net.constant held)).steps
  whole_keeps = first_keeps (stands net) sound (costs_of net.constant held) lent.network.ready.constant_most lent.network.top_some never (whole_ends net held)

  pub whole_count : nodes_needed (stands net) (costs_of net.constant held) ≡ nodes_in (whole_search (stands net) (costs_of net.constant held)).steps
  whole_count = first_count (stands net) sound (costs_of net.constant held) lent.network.ready.constant_most lent.network.top_some never (whole_ends net held)

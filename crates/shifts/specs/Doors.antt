-- What `shift` hands back, and what the lent table holds after it.
use Rattle.std.specs.Prelude.{ℕ, Bool, cond, List, length, Err, Ok}
use Rattle.answers.specs.Answers.{Answer, Done}
use Rattle.answers.specs.declared.Refusal.TheVariants.{Illegal}
use Rattle.costs.specs.declared.networks.Network.{Network}
use Rattle.costs.specs.Net.{Net, Costs, costs_of}
use Rattle.costs.specs.Networks.{stands}
use Rattle.judging.specs.Judging.{judged, refusal_of, Judgement}
use Rattle.shifts.specs.declared.nodes.Node.{Node}
use Rattle.shifts.specs.declared.moves.Move.{Move}
use Rattle.shifts.specs.declared.outcomes.Outcome.{Outcome}
use Rattle.shifts.specs.Nodes.{live_at, node_good}
use Rattle.shifts.specs.Moves.{shifted, is_legal}

-- the answer; the constant, and the table as a function of the place
pub record CostsLeft : Type 0 where
  pub answer : Answer
  pub costs : Costs

-- what a call that hands back r leaves in the table t
abbrev pub leaves : Outcome → List ℕ → CostsLeft
leaves r t = record { answer = r.answer; costs = costs_of r.constant t }

-- "8, 7, then the rest in table order": 10, "illegal node or shift", first of the node. Refused costs are left where one of them is given
abbrev pub settled : Judgement → Bool → CostsLeft → Costs → CostsLeft
settled (Ok o) legalNode left refused = cond legalNode left (record { answer = Err Illegal; costs = refused })
settled (Err why) legalNode left refused = record { answer = refusal_of why; costs = refused }

abbrev pub node_legal : Network → Node → Bool
node_legal net node = node_good net.vars net.sizes node.fixed

-- a shift at a legal node of a network. "Beside a refusal and its place, everything returned is zero." "A refused shift changes nothing lent."
unfoldable pub tried : Net → (ℕ → ℕ → Bool) → Move → ℕ → List ℕ → CostsLeft
tried n live x constant t =
    cond (is_legal n live (costs_of constant t) x)
    (record { answer = Done; costs = shifted n live x (costs_of constant t) })
    (record { answer = Err Illegal; costs = costs_of 0 t })

unfoldable pub shift_leaves : Network → List ℕ → Node → Move → CostsLeft
shift_leaves net t node x = settled (judged net t (length t)) (node_legal net node) (tried (stands net) (live_at net node) x net.constant t) (costs_of 0 t)

-- What `pass` hands back, and what the lent table holds after it.
use Rattle.std.specs.Prelude.{ℕ, min, cond, List, ltb, length, get_or}
use Rattle.answers.specs.Answers.{Done}
use Rattle.costs.specs.declared.networks.Network.{Network}
use Rattle.costs.specs.Net.{Costs, costs_of, entries}
use Rattle.costs.specs.Networks.{stands}
use Rattle.judging.specs.Judging.{judged, Lent}
use Rattle.shifts.specs.declared.nodes.Node.{Node}
use Rattle.shifts.specs.Nodes.{live_at, IsNode}
use Rattle.shifts.specs.Doors.{CostsLeft, settled, node_legal}
use Rattle.passes.specs.Passing.{pass}

abbrev pub passed : Network → List ℕ → Node → Costs
passed net held node = (pass (stands net) (live_at net node) (costs_of net.constant held)).costs

-- "Table entries past E are left alone by a successful read, shift or pass": the first `many` entries worked, the others as they were
abbrev pub worked_below : ℕ → Costs → List ℕ → Costs
worked_below many worked t = record { constant = worked.constant; at = λ j. cond (ltb j many) (worked.at j) (get_or t j 0) }

abbrev pub zeros : Costs
zeros = record { constant = 0; at = λ j. 0 }

-- "A refused read, pass or search leaves zeros throughout every buffer lent for writing." 8 judges the held table, 7 asks the length of both
unfoldable pub pass_leaves : Network → List ℕ → List ℕ → Node → CostsLeft
pass_leaves net held work node =
    settled (judged net held (min (length held) (length work))) (node_legal net node)
    (record { answer = Done; costs = worked_below (entries (stands net)) (passed net held node) work })
    zeros

-- nothing stands against a pass at this node: neither 8 nor 7, nor 10, "illegal node"
pub record MayPass (net : Network) (held work : List ℕ) (node : Node) : Type 0 where
  pub lent : Lent net held (length work)
  pub node_is_legal : IsNode (stands net) (live_at net node)

-- What a successful `shift` or `pass` keeps, said of what its caller has: the lent numbers, the tables before and the table after.
use Rattle.std.specs.Prelude.{ℕ, ◌≤◌, ◌≡◌, List, length, get_or}
use Rattle.costs.specs.declared.networks.Network.{Network}
use Rattle.costs.specs.Net.{costs_of, entries, price}
use Rattle.costs.specs.Networks.{stands, with_constant}
use Rattle.judging.specs.Judging.{IsNetwork}
use Rattle.shifts.specs.declared.nodes.Node.{Node}
use Rattle.shifts.specs.declared.moves.Move.{Move}
use Rattle.shifts.specs.Nodes.{live_at, IsNode, Fits}
use Rattle.shifts.specs.Moves.{Legal}

-- nothing stands against this shift: neither 8 nor 7, nor 10, "illegal node or shift"
pub record MayShift (net : Network) (t : List ℕ) (node : Node) (x : Move) : Type 0 where
  pub network : IsNetwork net t
  pub whole : entries (stands net) ≤ length t
  pub node_is_legal : IsNode (stands net) (live_at net node)
  pub shift_legal : Legal (stands net) (live_at net node) (costs_of net.constant t) x

-- what the network's own constant beside the held costs becomes: this constant beside the table after. `lent` is what that table was before
pub record CostsKept (net : Network) (node : Node) (held lent : List ℕ) (constant : ℕ) (after : List ℕ) : Type 0 where
  -- the capped price of every plan that fits the node is what it was
  pub prices : (p : ℕ → ℕ) → Fits (stands net) (live_at net node) p → price (stands net) (costs_of constant after) p ≡ price (stands net) (costs_of net.constant held) p
  -- and the constant is at most that price
  pub below : (p : ℕ → ℕ) → Fits (stands net) (live_at net node) p → constant ≤ price (stands net) (costs_of net.constant held) p
  -- with that constant the lent numbers are a network again beside the table, which is not shorter than E: no later call that is lent both answers 8, nor 7 for this table
  pub network : IsNetwork (with_constant net constant) after
  pub whole : entries (stands net) ≤ length after
  -- "Table entries past E are left alone by a successful read, shift or pass."
  pub past : (j : ℕ) → entries (stands net) ≤ j → get_or after j 0 ≡ get_or lent j 0

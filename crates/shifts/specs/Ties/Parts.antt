-- Ties: how the code holds a part at a node: the span of each variable's live values, and a block for each function.
use Rattle.std.specs.Prelude.{ℕ, zero, suc, ◌≤◌, ◌<◌, ◌≡◌, Bool, cond, List, eqb, get_or, Ok}
use Rattle.costs.specs.Net.{Net, start, entries, costs_of}
use Rattle.costs.specs.Networks.{Outline, net_of, Ready}
use Rattle.boxes.specs.declared.Span.{Span}
use Rattle.boxes.specs.declared.Block.{Block}
use Rattle.boxes.specs.Places.{on}
use Rattle.boxes.specs.Ties.Boxes.{Sits, sides, box_on, box_least}
use Rattle.shifts.specs.Nodes.{hit, least, node_good, live_in}
use Rattle.shifts.specs.declared.moves.Move.{Move}
use Rattle.shifts.specs.Doors.{CostsLeft, settled, tried}

-- the live values of a variable of size d, by a node's byte for it
abbrev pub span_of : ℕ → ℕ → Span
span_of zero d = record { size = d; from = 0; to = d }
span_of (suc a) d = record { size = d; from = a; to = suc a }

abbrev pub live_span : List ℕ → List ℕ → ℕ → Span
live_span sizes fixed v = span_of (get_or fixed v 0) (get_or sizes v 0)

-- and at the node below it that fixes i to a
unfoldable pub child_span : List ℕ → List ℕ → ℕ → ℕ → ℕ → Span
child_span sizes fixed i a v = cond (eqb v i) (span_of (suc a) (get_or sizes v 0)) (live_span sizes fixed v)

-- the block is that of part s's live tuples
pub record Holds (n : Net) (live : ℕ → ℕ → Bool) (s : ℕ) (b : Block) : Type 0 where
  pub changes : (change f : ℕ → ℕ) → box_on (sides b) b.at change f ≡ on (hit n live s) change f
  pub least : (t : ℕ → ℕ) → box_least (sides b) b.at n.top t ≡ least n live t s
  pub sits : Sits b (entries n)

-- what the code behind the public calls may count on: a network, where each unary stretch begins, a legal node, and room in the table
pub record Laid (o : Outline) (sizes rows starts firsts fixed : List ℕ) (room : ℕ) : Type 0 where
  pub ready : Ready o sizes rows starts
  pub first : (v : ℕ) → v < o.vars → get_or firsts v 0 ≡ start (net_of o sizes rows) v
  pub node : (v : ℕ) → v < o.vars → get_or fixed v 0 ≤ get_or sizes v 0
  pub roomy : entries (net_of o sizes rows) ≤ room

-- what a shift at a node leaves, where the network is judged
unfoldable pub tried_at : Outline → List ℕ → List ℕ → List ℕ → Move → List ℕ → CostsLeft
tried_at o sizes rows fixed x t = settled (Ok o) (node_good o.vars sizes fixed) (tried (net_of o sizes rows) (live_in sizes fixed) x o.constant t) (costs_of 0 t)

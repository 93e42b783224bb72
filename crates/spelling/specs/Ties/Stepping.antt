-- Ties: one step of a record at the code's place: how the place and the working table follow what the rules say.
use Rattle.std.specs.Prelude.{ℕ, ◌<◌, ◌≡◌, Bool, true, not, List, get_or, Option, is_some, IfSome}
use Rattle.costs.specs.Net.{Net, Costs, costs_of, entries}
use Rattle.costs.specs.Networks.{stands}
use Rattle.shifts.specs.declared.moves.Move.{Move}
use Rattle.shifts.specs.Moves.{shifted, is_legal}
use Rattle.records.specs.declared.steps.Step.{Step}
use Rattle.records.specs.Rules.{Claim, claim_of, current, nodes_after, costs_after}
use Rattle.spelling.specs.declared.trees.Place.{Place}
use Rattle.spelling.specs.declared.claims.Claimed.{Claimed}
use Rattle.spelling.specs.Spelling.{NodeCosts, is_none, may}
use Rattle.spelling.specs.Ties.Standing.{Upright, node_at, pending_at, nodes_at}

-- what it claims, as the rules have it
abbrev pub claim_in : Claimed → Claim
claim_in claimed = claim_of (stands claimed.judged.now.network.now) (costs_of claimed.judged.now.network.now.constant claimed.held.now) claimed.cost

-- the costs o that the rules have at the node are those of the place and the working table
pub record Follows (r : Claim) (o : NodeCosts) (p : Place) (t : List ℕ) : Type 0 where
  pub begun : p.begun ≡ not (is_none o)
  pub constant : (current r.held o).constant ≡ p.constant
  pub at : (j : ℕ) → j < entries r.net → (current r.held o).at j ≡ get_or t j 0

-- the place q, with the table t, is where the rules say that a step leads
pub record Leads (r : Claim) (o : NodeCosts) (p : Place) (s : Step) (q : Place) (t : List ℕ) : Type 0 where
  pub upright : Upright r.net.vars r.net.size q
  pub nodes : nodes_at r.net.size q ≡ nodes_after r (node_at r.net.size p) (pending_at r.net.size p) s
  pub follows : Follows r (costs_after r (node_at r.net.size p) o s) q t

-- a step is taken where the rules allow it, and then leaves what they say
pub record Took (r : Claim) (o : NodeCosts) (p : Place) (s : Step) (q : Option Place) (t : List ℕ) : Type 0 where
  pub allowed : is_some q ≡ may r (node_at r.net.size p) o s
  pub leads : IfSome q (λ next. Leads r o p s next t)

-- the place with a shift done
abbrev pub shifted_place : Place → ℕ → Place
shifted_place p constant = record { fixed = p.fixed; order = p.order; depth = p.depth; over = p.over; begun = true; constant = constant }

-- a shift that left the costs c in the table t
pub record ShiftedTo (p : Place) (c : Costs) (q : Place) (t : List ℕ) : Type 0 where
  pub place : q ≡ shifted_place p c.constant
  pub table : (j : ℕ) → get_or t j 0 ≡ c.at j

-- a shift is made where it is legal
pub record Shifted (n : Net) (live : ℕ → ℕ → Bool) (p : Place) (x : Move) (t : List ℕ) (q : Option Place) (t' : List ℕ) : Type 0 where
  pub allowed : is_some q ≡ is_legal n live (costs_of p.constant t) x
  pub made : IfSome q (λ next. ShiftedTo p (shifted n live x (costs_of p.constant t)) next t')

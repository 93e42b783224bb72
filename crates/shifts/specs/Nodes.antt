-- Nodes, and what is live at them.
use Rattle.std.specs.Prelude.{ℕ, zero, suc, ◌/◌, ◌%◌, ◌<◌, ◌+◌, Bool, true, cond, ◌&&◌, List, [], ◌∷◌, ◌≡◌, T, leb, ltb, eqb, get_or}
use Rattle.costs.specs.declared.networks.Network.{Network}
use Rattle.costs.specs.Range.{all_to}
use Rattle.costs.specs.Net.{Net, IsPlan, tuples, start}
use Rattle.boxes.specs.Places.{in_stretch}
use Rattle.boxes.specs.Loops.{least_to}
use Rattle.shifts.specs.declared.nodes.Node.{Node}

-- "A node fixes some variables; a fixed variable has one live value, any other has all": the value b of a variable is live by a node's byte for it
abbrev pub live_by : ℕ → ℕ → ℕ → Bool
live_by zero size b = ltb b size
live_by (suc a) size b = eqb b a

-- which values are live, of each variable
abbrev pub live_in : List ℕ → List ℕ → ℕ → ℕ → Bool
live_in sizes fixed v b = live_by (get_or fixed v 0) (get_or sizes v 0) b

abbrev pub live_at : Network → Node → ℕ → ℕ → Bool
live_at net node = live_in net.sizes node.fixed

-- a legal node: each fixed value is below its variable's size
unfoldable pub node_good : ℕ → List ℕ → List ℕ → Bool
node_good vars sizes fixed = all_to vars (λ v. leb (get_or fixed v 0) (get_or sizes v 0))

-- the same of a node's live values, however it holds them
pub record IsNode (n : Net) (live : ℕ → ℕ → Bool) : Type 0 where
  pub below : (v b : ℕ) → v < n.vars → T (live v b) → b < n.size v

-- the node below this one that fixes variable i to a
unfoldable pub fixing : (ℕ → ℕ → Bool) → ℕ → ℕ → ℕ → ℕ → Bool
fixing live i a v b = cond (eqb v i) (eqb b a) (live v b)

-- "A tuple is live if its values are": the tuple of entry e
abbrev pub live_entry : (ℕ → ℕ) → (ℕ → ℕ → Bool) → List ℕ → ℕ → Bool
live_entry size live [] e = true
live_entry size live (v ∷ vs) e = live v (e / tuples size vs) && live_entry size live vs (e % tuples size vs)

-- place j is that of a live tuple of part s
abbrev pub hit : Net → (ℕ → ℕ → Bool) → ℕ → ℕ → Bool
hit n live s = in_stretch (start n s) (tuples n.size (n.scope s)) (live_entry n.size live (n.scope s))

-- "the least cost of the live tuples" of part s
unfoldable pub least : Net → (ℕ → ℕ → Bool) → (ℕ → ℕ) → ℕ → ℕ
least n live t s = least_to n.top (live_entry n.size live (n.scope s)) (λ e. t (start n s + e)) (tuples n.size (n.scope s))

-- a plan that fits a node
pub record Fits (n : Net) (live : ℕ → ℕ → Bool) (p : ℕ → ℕ) : Type 0 where
  pub plan : IsPlan n p
  pub lives : (v : ℕ) → v < n.vars → T (live v (p v))

-- every variable is fixed: no value but the plan's is live
abbrev pub Settled : Net → (ℕ → ℕ → Bool) → (ℕ → ℕ) → Type 0
Settled n live p = (v b : ℕ) → v < n.vars → T (live v b) → b ≡ p v

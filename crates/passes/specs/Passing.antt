-- "THE PASS at a node starts from the held costs."
use Rattle.std.specs.Prelude.{ℕ, zero, suc, ◌+◌, ◌-◌, ◌≤◌, ◌<◌, Bool, cond, List, [], ◌∷◌, ◌++◌, ◌≡◌, length}
use Rattle.costs.specs.Net.{Net, Costs}
use Rattle.boxes.specs.Loops.{each_to}
use Rattle.shifts.specs.declared.moves.Move.{Move}
use Rattle.shifts.specs.declared.moves.Move.TheVariants.{Project, Raise}
use Rattle.shifts.specs.Nodes.{fixing, least}
use Rattle.shifts.specs.Moves.{shifted, LegalAll, ran}

-- the worked costs, and the shifts that led there
pub record Work : Type 0 where
  pub costs : Costs
  pub shifts : List Move

-- shift by an amount, "if above 0"
abbrev pub shift_by : Net → (ℕ → ℕ → Bool) → (ℕ → Move) → ℕ → Work → Work
shift_by n live x zero w = w
shift_by n live x (suc m) w = record { costs = shifted n live (x (suc m)) w.costs; shifts = w.shifts ++ (x (suc m) ∷ []) }

module _ (n : Net) (live : ℕ → ℕ → Bool) where
  -- "each live value": "project the least cost of the live tuples with that value"
  abbrev pub at_value : ℕ → ℕ → ℕ → Work → Work
  at_value f i a w = cond (live i a) (shift_by n live (Project f i a) (least n (fixing live i a) w.costs.at (n.vars + f)) w) w

  -- "each variable of its scope in order, each live value ascending"
  abbrev pub at_scope : ℕ → List ℕ → Work → Work
  at_scope f [] w = w
  at_scope f (i ∷ is) w = at_scope f is (each_to (at_value f i) (n.size i) w)

  -- "For each function by number"
  abbrev pub projections : Work → Work
  projections w = each_to (λ f. at_scope f (n.scope (n.vars + f))) (n.parts - n.vars) w

  -- "raise its least live unary cost, if above 0"
  abbrev pub at_variable : ℕ → Work → Work
  at_variable i w = shift_by n live (Raise i) (least n live w.costs.at i) w

  -- "Then for each variable ascending"
  unfoldable pub pass : Costs → Work
  pass held = each_to at_variable n.vars (projections (record { costs = held; shifts = [] }))

-- the shifts are legal in their turn from c on, and lead to the costs
pub record Led (n : Net) (live : ℕ → ℕ → Bool) (c : Costs) (w : Work) : Type 0 where
  pub legal : LegalAll n live c w.shifts
  pub leads : ran n live c w.shifts ≡ w.costs

-- a network within limits: at most N variables, S values of each, F functions, A variables of each
pub record Within (N S F A : ℕ) (n : Net) : Type 0 where
  pub vars : n.vars ≤ N
  pub sizes : (v : ℕ) → v < n.vars → n.size v ≤ S
  pub functions : n.parts - n.vars ≤ F
  pub arity : (s : ℕ) → s < n.parts → length (n.scope s) ≤ A

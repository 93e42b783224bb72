-- The network that all laws speak of, over any arity. A part is a cost function: part i below `vars` holds variable i's unary costs and has
-- the scope i alone; function f of the text is part `vars + f`.
use Rattle.std.specs.Prelude.{ℕ, ◌+◌, ◌*◌, ◌≤◌, ◌<◌, ◌≡◌, List, [], ◌∷◌, length, get_or}
use Rattle.costs.specs.Cost.{plus, plus_to}
use Rattle.costs.specs.Range.{sum_to, product_to}

pub record Net : Type 0 where
  pub top : ℕ
  pub vars : ℕ
  pub parts : ℕ
  pub size : ℕ → ℕ
  pub scope : ℕ → List ℕ

-- P holds of each number of a list
abbrev pub All : (ℕ → Type 0) → List ℕ → Type 0
All P [] = Unit {0}
All P (v ∷ vs) = P v × All P vs

-- what every network has, whatever its limits
pub record Sound (n : Net) : Type 0 where
  pub unary : (i : ℕ) → i < n.vars → n.scope i ≡ i ∷ []
  pub known : (s : ℕ) → s < n.parts → All (λ v. v < n.vars) (n.scope s)
  pub enough : n.vars ≤ n.parts
  pub filled : (s : ℕ) → s < n.parts → 0 < length (n.scope s)
  pub sized : (v : ℕ) → v < n.vars → 0 < n.size v

-- how many tuples a scope has
abbrev pub tuples : (ℕ → ℕ) → List ℕ → ℕ
tuples size [] = 1
tuples size (v ∷ vs) = size v * tuples size vs

-- the entry of a plan's tuple, "the last scope variable changing fastest"
abbrev pub entry : (ℕ → ℕ) → (ℕ → ℕ) → List ℕ → ℕ
entry size p [] = 0
entry size p (v ∷ vs) = p v * tuples size vs + entry size p vs

-- where part s begins: "first the unary stretches by variable, then the functions by number"
abbrev pub start_of : (ℕ → ℕ) → (ℕ → List ℕ) → ℕ → ℕ
start_of size scope s = sum_to s (λ r. tuples size (scope r))

abbrev pub start : Net → ℕ → ℕ
start n s = start_of n.size n.scope s

-- "E, the entries in all"
abbrev pub entries : Net → ℕ
entries n = start n n.parts

-- the place of the entry of part s that a plan touches
abbrev pub touched : Net → (ℕ → ℕ) → ℕ → ℕ
touched n p s = start n s + entry n.size p (n.scope s)

-- the constant, and the table as a function of the place
pub record Costs : Type 0 where
  pub constant : ℕ
  pub at : ℕ → ℕ

abbrev pub costs_of : ℕ → List ℕ → Costs
costs_of constant t = record { constant = constant; at = λ j. get_or t j 0 }

-- a plan of this network
pub record IsPlan (n : Net) (p : ℕ → ℕ) : Type 0 where
  pub range : (v : ℕ) → v < n.vars → p v < n.size v

-- how many plans there are
abbrev pub plans : Net → ℕ
plans n = product_to n.vars n.size

-- a plan's running sum: the constant ⊕ the costs that it touches in the first s parts
abbrev pub running_sum : Net → Costs → (ℕ → ℕ) → ℕ → ℕ
running_sum n c p s = plus_to n.top (plus n.top 0 c.constant) s (λ r. c.at (touched n p r))

-- "Its price is the constant ⊕ its unary costs ⊕ its function costs"
unfoldable pub price : Net → Costs → (ℕ → ℕ) → ℕ
price n c p = running_sum n c p n.parts

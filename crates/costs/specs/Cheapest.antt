-- What a search should answer: the lexicographically first of the cheapest plans, or that there is none below the bound.
use Rattle.std.specs.Prelude.{ℕ, ◌≤◌, ◌<◌, ◌≡◌, ◌⊎◌, List, [], length, get_or}
use Rattle.costs.specs.Net.{Net, Costs, IsPlan, price}

-- a list of values as a plan
abbrev pub value_in : List ℕ → ℕ → ℕ
value_in q v = get_or q v 0

-- p comes before q: at the first variable where they differ its value is less
pub record Before (p q : ℕ → ℕ) : Type 0 where
  pub first : ℕ
  pub same : (v : ℕ) → v < first → p v ≡ q v
  pub less : p first < q first

-- no plan is cheaper than this one, which is priced below the bound
pub record IsCheapest (n : Net) (held : Costs) (p : ℕ → ℕ) (cost : ℕ) : Type 0 where
  pub plan : IsPlan n p
  pub below : cost < n.top
  pub priced : price n held p ≡ cost
  pub least : (q : ℕ → ℕ) → IsPlan n q → cost ≤ price n held q

-- every plan reaches the bound
abbrev pub NonePayable : Net → Costs → Type 0
NonePayable n held = (p : ℕ → ℕ) → IsPlan n p → price n held p ≡ n.top

-- "the cheapest plan priced below the bound, the lexicographically first of ties", as a list of values
pub record Cheapest (n : Net) (held : Costs) (q : List ℕ) (best : ℕ) : Type 0 where
  pub whole : length q ≡ n.vars
  pub cheapest : IsCheapest n held (value_in q) best
  pub first : (p : ℕ → ℕ) → IsPlan n p → Before p (value_in q) → best < price n held p

-- "best equal to k is "none", with a plan of count 0"
pub record NoneBelow (n : Net) (held : Costs) (q : List ℕ) (best : ℕ) : Type 0 where
  pub plan : q ≡ []
  pub best_is : best ≡ n.top
  pub all : NonePayable n held

abbrev pub RightAnswer : Net → Costs → List ℕ → ℕ → Type 0
RightAnswer n held q best = NoneBelow n held q best ⊎ Cheapest n held q best

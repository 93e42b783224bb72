-- What `price` answers: 8, 7, 9, or the plan's price and where it broke. "Beside a refusal and its place, everything returned is zero."
use Rattle.std.specs.Prelude.{ℕ, ◌≤◌, ◌≡◌, cond, List, ltb, eqb, length, Result, Ok, Err}
use Rattle.costs.specs.declared.networks.Network.{Network}
use Rattle.costs.specs.declared.plans.Plan.{Plan}
use Rattle.prices.specs.declared.prices.Priced.{Priced}
use Rattle.prices.specs.declared.breaks.Break.TheVariants.{Nowhere}
use Rattle.answers.specs.Answers.{Answer, Done}
use Rattle.answers.specs.declared.Refusal.TheVariants.{BadPlan}
use Rattle.judging.specs.declared.Unfit.{Unfit}
use Rattle.costs.specs.Net.{Net, Costs, IsPlan, entries, price, costs_of}
use Rattle.costs.specs.Networks.{Outline, stands}
use Rattle.costs.specs.Cheapest.{value_in}
use Rattle.judging.specs.Judging.{judged, refusal_of, IsNetwork}
use Rattle.prices.specs.Plans.{first_bad}
use Rattle.prices.specs.Breaks.{broke_at}

abbrev pub refused_price : Answer → Priced
refused_price a = record { answer = a; price = 0; broke = Nowhere }

-- of a plan that nothing stands against
abbrev pub plan_price : Net → Costs → (ℕ → ℕ) → Priced
plan_price n c p = record { answer = Done; price = price n c p; broke = broke_at n c p }

-- "plan of another length, or a value out of range": "first bad variable, or 0 for length"
unfoldable pub plan_priced : Network → List ℕ → Plan → Priced
plan_priced net t plan =
    cond (eqb plan.len net.vars)
    (cond (ltb (first_bad net.vars net.sizes plan.choice) net.vars)
    (refused_price (Err (BadPlan (first_bad net.vars net.sizes plan.choice))))
    (plan_price (stands net) (costs_of net.constant t) (value_in plan.choice)))
    (refused_price (Err (BadPlan 0)))

abbrev pub after_judge : Result Outline Unfit → Priced → Priced
after_judge (Ok o) r = r
after_judge (Err why) r = refused_price (refusal_of why)

unfoldable pub priced : Network → List ℕ → Plan → Priced
priced net t plan = after_judge (judged net t (length t)) (plan_priced net t plan)

-- nothing stands against this price: neither 8 nor 7, nor 9, "plan of another length, or a value out of range"
pub record MayPrice (net : Network) (t : List ℕ) (plan : Plan) : Type 0 where
  pub network : IsNetwork net t
  pub whole : entries (stands net) ≤ length t
  pub sized : plan.len ≡ net.vars
  pub values : IsPlan (stands net) (value_in plan.choice)

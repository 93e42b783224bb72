-- What `price` answers after `read`, after `shift` or `pass`, and after `search`, as a user of these calls sees it. Assumes nothing.
use Rattle.std.proofs.Common.{ℕ, ◌<◌, ◌≡◌, sym, ap, ◌∙◌, subst, Bool, inl, inr, List, arith}
use Rattle.std.proofs.Math.ListN.{get_or-append}
use Rattle.answers.specs.Answers.{Done}
use Rattle.costs.specs.declared.networks.Network.{Network}
use Rattle.costs.specs.declared.plans.Plan.{Plan}
use Rattle.costs.specs.Net.{IsPlan, costs_of}
use Rattle.costs.specs.Networks.{stands, with_constant}
use Rattle.costs.specs.Cheapest.{value_in, Cheapest, RightAnswer}
use Rattle.costs.proofs.NetLaws.{price-same}
use Rattle.judging.specs.Judging.{Lent}
use Rattle.judging.proofs.JudgeLaws.{network_sound}
use Rattle.prices.specs.declared.breaks.Break.TheVariants.{Nowhere}
use Rattle.prices.specs.declared.prices.Priced.{Priced}
use Rattle.prices.specs.Prices.{priced}
use Rattle.prices.proofs.PriceCalls.{price_done, done_price, price_is, breaks_price}
use Rattle.shifts.specs.declared.nodes.Node.{Node}
use Rattle.shifts.specs.Nodes.{live_at, Fits}
use Rattle.shifts.specs.Kept.{CostsKept}
use Rattle.engines.specs.declared.results.Searched.{Searched}
use Rattle.engines.specs.Results.{SearchLeft, planned}
use Rattle.search.specs.Doors.{search_leaves, FoundRight}
use Rattle.search.proofs.SearchIsRight.{done_right}
use Rattle.reader.specs.Said.{price_said}
use Rattle.reader.specs.ReadRight.{ReadRight}

-- of a plan of the network that was read, the capped sum of what the text says of it, function by function
pub read_priced : (text before after : List ℕ) (net : Network) (right : ReadRight text before net after) (plan : Plan) (r : Priced) → r ≡ priced net after plan → plan.len ≡ net.vars
    → IsPlan (stands net) (value_in plan.choice) → (r.answer ≡ Done) × (r.price ≡ price_said right.said.spelt (value_in plan.choice))
read_priced text before after net right plan r promise sized values =
    let done = price_done net after plan r promise (record { network = right.network; whole = right.whole; sized = sized; values = values }) in
    (done, price_is net after plan r promise done ∙ right.said.prices (value_in plan.choice) values)

-- of a plan that fits the node, what it was
pub kept_priced : (net : Network) (node : Node) (held lent : List ℕ) (constant : ℕ) (after : List ℕ) → CostsKept net node held lent constant after → (plan : Plan) → Fits (stands net) (live_at net node) (value_in plan.choice)
    → (r s : Priced) → r ≡ priced net held plan → s ≡ priced (with_constant net constant) after plan → r.answer ≡ Done → (s.answer ≡ Done) × (s.price ≡ r.price)
kept_priced net node held lent constant after kept plan fits r s before later done =
    let may = done_price net held plan r before done in
    let again = price_done (with_constant net constant) after plan s later (record { network = kept.network; whole = kept.whole; sized = may.sized; values = may.values }) in
    (again, price_is (with_constant net constant) after plan s later again ∙ kept.prices (value_in plan.choice) fits ∙ sym (price_is net held plan r before done))

-- of the plan that a search has found, the cost that the search told, and that it broke nowhere
module _ (net : Network) (held : List ℕ) (work : ℕ) (lent : Lent net held work) (values : List ℕ) (cost : ℕ) (h : Cheapest (stands net) (costs_of net.constant held) values cost) where
  same_values : (v : ℕ) → v < net.vars → value_in (planned values).choice v ≡ value_in values v
  same_values v l = get_or-append values _ 0 v (omega (arith, h.whole))

  cheapest_priced : (r : Priced) → r ≡ priced net held (planned values) → r ≡ record { answer = Done; price = cost; broke = Nowhere }
  cheapest_priced r promise =
      let plan : IsPlan (stands net) (value_in (planned values).choice) = record { range = λ v l. rw (same_values v l) (h.cheapest.plan.range v l) } in
      let done = price_done net held (planned values) r promise (record { network = lent.network; whole = lent.held_whole; sized = h.whole; values = plan }) in
      let its-price = price-same (stands net) (network_sound net held lent.network) (costs_of net.constant held) (value_in (planned values).choice) (value_in values) same_values ∙ h.cheapest.priced in
      let told = price_is net held (planned values) r promise done ∙ its-price in
      let nowhere = breaks_price net held (planned values) r promise done Nowhere (rw its-price h.cheapest.below) in
      λ i. record { answer = done i; price = told i; broke = nowhere i }

pub found_priced : (net : Network) (held : List ℕ) (work out : ℕ) (asked : Bool) (limit : ℕ) (found : Searched) (record' : List ℕ) → ◌≡◌ {A = SearchLeft} (record { result = found; out = record' }) (search_leaves net held work out asked limit)
    → found.answer ≡ Done → found.cost < net.top → (r : Priced) → r ≡ priced net held found.plan → r ≡ record { answer = Done; price = found.cost; broke = Nowhere }
found_priced net held work out asked limit found record' e done below r promise =
    let left = done_right net held work out asked limit (sym (ap (λ (x : SearchLeft). x.result.answer) e) ∙ done) in
    go (subst (λ (x : Searched). FoundRight net held x) (sym (ap (λ (x : SearchLeft). x.result) e)) left.3) left.0
  where
    go : (f : FoundRight net held found) → Lent net held work → r ≡ record { answer = Done; price = found.cost; broke = Nowhere }
    go f lent = either f.right
      where
        either : RightAnswer (stands net) (costs_of net.constant held) f.values found.cost → r ≡ record { answer = Done; price = found.cost; broke = Nowhere }
        either (inl none) = absurd (omega (arith, none.best_is))
        either (inr h) = cheapest_priced net held work lent f.values found.cost h r (promise ∙ ap (priced net held) f.plan)

-- What `price` answers, in each of its four cases, and the places that a plan touches. Assumes nothing.
use Rattle.std.proofs.Common.{Result, Ok, Err, Some, None, IsErrAnd, ℕ, ◌+◌, ◌*◌, ◌^◌, ◌≤◌, ◌<◌, ◌≡◌, refl, ap, ◌∙◌, Bool, true, false, not, cond, List, arith, ltb, length, get_or, lt-ltb, le-ltb, eq-eqb, ne_eqb, ltb-true, ltb-false}
use Rattle.answers.specs.declared.Refusal.{Refusal}
use Rattle.prices.specs.declared.prices.Priced.{Priced}
use Rattle.std.proofs.lemmas.Bool.{not-false}
use Rattle.costs.specs.declared.networks.Network.{Network}
use Rattle.costs.specs.declared.plans.Plan.{Plan}
use Rattle.answers.specs.declared.Refusal.TheVariants.{BadPlan}
use Rattle.judging.specs.declared.Unfit.{Unfit}
use Rattle.judging.specs.declared.judged.Judged.{Judged}
use Rattle.costs.specs.Limits.{size_most, entries_most}
use Rattle.costs.specs.Net.{IsPlan, Sound, start as start_in, touched, costs_of, entries, entry as entry_in}
use Rattle.costs.specs.Networks.{Outline, in_row, scope_in, outline_of, stands, Scoped, net_of, Ready}
use Rattle.costs.specs.Cheapest.{value_in}
use Rattle.costs.proofs.NetLaws.{touched_below, touched_unary}
use Rattle.costs.proofs.RangeLaws.{first_to_is, first_to_none, first_to_below}
use Rattle.costs.proofs.RowLaws.{scoped_sound, scope-function, factor_more, digit_more, three_most}
use Rattle.costs.proofs.ScopeLaws.{scope_length, variable_known}
use Rattle.judging.specs.Judging.{judged, refusal_of}
use Rattle.judging.proofs.JudgeLaws.{judged-passed}
use Rattle.prices.specs.Plans.{first_bad}
use Rattle.prices.specs.Prices.{refused_price, plan_price, plan_priced, priced}
use Rattle.prices.specs.Ties.Answers.{bad_value, answered}

-- where no value is bad the choices are a plan
pub none_bad : (vars : ℕ) (sizes choice : List ℕ) → vars ≤ first_bad vars sizes choice → (v : ℕ) → v < vars → get_or choice v 0 < get_or sizes v 0
none_bad vars sizes choice h v l =
    ltb-true (get_or choice v 0) (get_or sizes v 0)
    (not-false (ltb (get_or choice v 0) (get_or sizes v 0)) (first_to_below vars (λ w. not (ltb (get_or choice w 0) (get_or sizes w 0))) v (omega arith)))

module _ (vars : ℕ) (sizes choice : List ℕ) where
  abbrev misses : ℕ → Bool
  misses v = not (ltb (get_or choice v 0) (get_or sizes v 0))

  -- the first bad value, as a loop finds it
  pub value_bad : (v : ℕ) → v < vars → ((w : ℕ) → w < v → get_or choice w 0 < get_or sizes w 0) → get_or sizes v 0 ≤ get_or choice v 0 → Some v ≡ bad_value vars sizes choice
  value_bad v l before here =
      let first : first_bad vars sizes choice ≡ v = first_to_is vars v misses l (λ w m. rw (lt-ltb (get_or choice w 0) (get_or sizes w 0) (before w m))) (rw (le-ltb (get_or choice v 0) (get_or sizes v 0) here)) in
      rw (first, lt-ltb v vars l)

  pub values_good : ((w : ℕ) → w < vars → get_or choice w 0 < get_or sizes w 0) → None ≡ bad_value vars sizes choice
  values_good h =
      let none : first_bad vars sizes choice ≡ vars = first_to_none vars misses (λ w m. rw (lt-ltb (get_or choice w 0) (get_or sizes w 0) (h w m))) in
      rw (none, le-ltb vars vars (omega arith))

  -- and back
  bad_first : (v : ℕ) → Some v ≡ bad_value vars sizes choice → (v ≡ first_bad vars sizes choice) × (first_bad vars sizes choice < vars)
  bad_first v e = go (ltb (first_bad vars sizes choice) vars) (ltb-true (first_bad vars sizes choice) vars) e
    where
      go : (b : Bool) → (b ≡ true → first_bad vars sizes choice < vars) → Some v ≡ cond b (Some (first_bad vars sizes choice)) None → (v ≡ first_bad vars sizes choice) × (first_bad vars sizes choice < vars)
      go true f e = (cc, f refl)
      go false f e = absurd (let z : ◌≡◌ {A = ℕ} 0 1 = cc in omega arith)

  good_values : None ≡ bad_value vars sizes choice → vars ≤ first_bad vars sizes choice
  good_values e = go (ltb (first_bad vars sizes choice) vars) (ltb-false (first_bad vars sizes choice) vars) e
    where
      go : (b : Bool) → (b ≡ false → vars ≤ first_bad vars sizes choice) → None ≡ cond b (Some (first_bad vars sizes choice)) None → vars ≤ first_bad vars sizes choice
      go true f e = absurd (let z : ◌≡◌ {A = ℕ} 0 1 = cc in omega arith)
      go false f e = f refl

module _ (net : Network) (t : List ℕ) (plan : Plan) where
  pub good_plan : None ≡ bad_value net.vars net.sizes plan.choice → IsPlan (stands net) (value_in plan.choice)
  good_plan e = record { range = none_bad net.vars net.sizes plan.choice (good_values net.vars net.sizes plan.choice e) }

  pub priced_refused : (why : Unfit) → Err why ≡ judged net t (length t) → refused_price (refusal_of why) ≡ priced net t plan
  unfolding priced
  priced_refused why e = rw (← e)

  -- as a `?` gives it
  pub err_answered : (why : Unfit) (r : Result Priced Refusal) → IsErrAnd r (λ x. Err x ≡ refusal_of why) → Err why ≡ judged net t (length t) → answered r ≡ priced net t plan
  err_answered why (Ok done) h e = absurd h
  err_answered why (Err x) h e = ap refused_price h ∙ priced_refused why e

  module _ (o : Outline) (passed : Ok o ≡ judged net t (length t)) where
    pub priced-length : (plan.len ≡ net.vars → ⊥) → refused_price (Err (BadPlan 0)) ≡ priced net t plan
    unfolding priced plan_priced
    priced-length d = rw (← passed, ne_eqb plan.len net.vars d)

    module _ (sized : plan.len ≡ net.vars) where
      pub priced-value : (v : ℕ) → Some v ≡ bad_value net.vars net.sizes plan.choice → refused_price (Err (BadPlan v)) ≡ priced net t plan
      unfolding priced plan_priced
      priced-value v e =
          let bad = bad_first net.vars net.sizes plan.choice v e in
          rw (← passed, eq-eqb plan.len net.vars sized, lt-ltb (first_bad net.vars net.sizes plan.choice) net.vars bad.1, bad.0)

      pub priced_done : None ≡ bad_value net.vars net.sizes plan.choice → plan_price (stands net) (costs_of net.constant t) (value_in plan.choice) ≡ priced net t plan
      unfolding priced plan_priced
      priced_done e = rw (← passed, eq-eqb plan.len net.vars sized, le-ltb (first_bad net.vars net.sizes plan.choice) net.vars (good_values net.vars net.sizes plan.choice e))

-- what the pricing of a plan may count on, where the judge refuses nothing
pub priced_ready : (net : Network) (t : List ℕ) (o : Outline) → Ok o ≡ judged net t (length t)
    → Ready o net.sizes net.scopes net.starts × (entries (net_of o net.sizes net.scopes) ≤ length t) × (o.vars ≡ net.vars)
priced_ready net t o e =
    let passed = judged-passed net t (length t) o e in
    rw passed.outline (passed.network.ready, passed.roomy, refl)

-- the places of a table that a plan touches
module _ (j : Judged) (t choice : List ℕ) (whole : j.entries ≤ length t) (plan : IsPlan (stands j.network.now) (value_in choice)) where
  sound : Sound (stands j.network.now)
  sound = scoped_sound (outline_of j.network.now) j.network.now.sizes j.network.now.scopes j.ready.scoped

  pub unary_place : (v start value : ℕ) → v < j.network.now.vars → start ≡ start_in (stands j.network.now) v → value ≡ get_or choice v 0
      → (start + value ≡ touched (stands j.network.now) (value_in choice) v) × (start + value < length t) × (start + value < entries_most)
  unary_place v start value l e is =
      let at = touched_unary (stands j.network.now) sound (value_in choice) v l in
      let low = touched_below (stands j.network.now) sound (value_in choice) plan v (omega arith) in
      (omega (arith, at, e, is), omega (arith, at, e, is, low, whole, j.whole), omega (arith, at, e, is, low, j.ready.few))

  pub function_place : (f start entry : ℕ) → f < j.network.now.functions → start ≡ get_or j.network.now.starts f 0 → entry ≡ entry_in (λ v. get_or j.network.now.sizes v 0) (value_in choice) (scope_in (in_row j.network.now.scopes f))
      → (start + entry ≡ touched (stands j.network.now) (value_in choice) (j.network.now.vars + f)) × (start + entry < length t) × (start + entry < entries_most)
  function_place f start entry l e is =
      let at : start + entry ≡ touched (stands j.network.now) (value_in choice) (j.network.now.vars + f) = rw (scope-function j.network.now.vars j.network.now.scopes f, e, is, j.ready.placed f l) in
      let low = touched_below (stands j.network.now) sound (value_in choice) plan (j.network.now.vars + f) (omega arith) in
      (at, omega (arith, at, low, whole, j.whole), omega (arith, at, low, j.ready.few))

-- an entry, one variable more
pub entry_room : (net : Network) (choice : List ℕ) → Scoped net.vars net.functions net.sizes net.scopes → ((v : ℕ) → v < net.vars → get_or choice v 0 < get_or net.sizes v 0) → (f : ℕ) → f < net.functions
    → (vs : List ℕ) → vs ≡ scope_in (in_row net.scopes f) → (j e s x : ℕ) → j < length vs → e < size_most ^ j → s ≡ get_or net.sizes (get_or vs j 0) 0 → x ≡ get_or choice (get_or vs j 0) 0
    → (e * s ≤ size_most ^ 3) × (e * s + x < size_most ^ (j + 1)) × (size_most ^ (j + 1) ≤ size_most ^ 3)
entry_room net choice r values f l vs scope j e s x m low es ex =
    let known : get_or vs j 0 < net.vars = variable_known net.vars net.functions net.sizes net.scopes r f l vs scope j m in
    let few : length vs ≤ in_row net.scopes f 0 = rw scope (scope_length (in_row net.scopes f)) in
    let small : s ≤ size_most = rw es (r.small (get_or vs j 0) known) in
    let chosen : x < s = rw (es, ex) (values (get_or vs j 0) known) in
    let most : size_most ^ (j + 1) ≤ size_most ^ 3 = three_most (j + 1) (omega (arith, r.arity_at_most f l)) in
    (omega (arith, factor_more size_most j e s (omega arith) small), digit_more size_most j e s x low small chosen, most)

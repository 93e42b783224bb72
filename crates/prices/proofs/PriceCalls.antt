-- The public call `price`, whose promise is `r ≡ priced net t plan`: when it succeeds, that "the price is the capped sum", and where the plan broke. Assumes nothing.
use Rattle.std.proofs.Common.{Result, Ok, Err, ℕ, ◌+◌, ◌≤◌, min, ◌≡◌, refl, sym, ap, ◌∙◌, subst, Bool, true, false, not, cond, List, arith, ltb, eqb, length, get_or, eqb-true, ltb-false, lt-ltb, le-ltb, eq-eqb}
use Rattle.answers.specs.Answers.{Done, number_of}
use Rattle.answers.specs.declared.Refusal.TheVariants.{BadPlan}
use Rattle.costs.specs.declared.networks.Network.{Network}
use Rattle.costs.specs.declared.plans.Plan.{Plan}
use Rattle.costs.specs.Range.{sum_to}
use Rattle.costs.specs.Net.{Net, Costs, costs_of, touched, price}
use Rattle.costs.specs.Networks.{Outline, stands}
use Rattle.costs.specs.Cheapest.{value_in}
use Rattle.costs.proofs.RangeLaws.{first_to_none}
use Rattle.costs.proofs.NetLaws.{price_capped}
use Rattle.judging.specs.declared.Unfit.{Unfit}
use Rattle.judging.specs.declared.Unfit.TheVariants.{NoNetwork, TooShort}
use Rattle.judging.specs.Judging.{judged}
use Rattle.judging.proofs.JudgeLaws.{judged-passed, Passed, network_fit}
use Rattle.prices.specs.declared.breaks.Break.{Break}
use Rattle.prices.specs.declared.breaks.Break.TheVariants.{Nowhere}
use Rattle.prices.specs.declared.prices.Priced.{Priced}
use Rattle.prices.specs.Breaks.{Breaks}
use Rattle.prices.proofs.BreakLaws.{broke_breaks, breaks_broke, named_full, full_named}
use Rattle.prices.specs.Plans.{first_bad}
use Rattle.prices.specs.Prices.{refused_price, plan_price, plan_priced, after_judge, priced, MayPrice}
use Rattle.prices.proofs.PriceLaws.{none_bad}

module _ (net : Network) (t : List ℕ) (plan : Plan) where
  abbrev bad : ℕ
  bad = first_bad net.vars net.sizes plan.choice

  abbrev n : Net
  n = stands net

  abbrev held : Costs
  held = costs_of net.constant t

  abbrev choice : ℕ → ℕ
  choice = value_in plan.choice

  -- what is answered, by the judge, whether the length is right and whether a value is bad
  abbrev answered : Result Outline Unfit → Bool → Bool → Priced
  answered j sized valued = after_judge j (cond sized (cond valued (refused_price (Err (BadPlan bad))) (plan_price n held choice)) (refused_price (Err (BadPlan 0))))

  may-priced : MayPrice net t plan → priced net t plan ≡ plan_price n held choice
  unfolding priced plan_priced
  may-priced may =
      let none : bad ≡ net.vars = first_to_none net.vars (λ v. not (ltb (get_or plan.choice v 0) (get_or net.sizes v 0))) (λ v l. rw (lt-ltb (get_or plan.choice v 0) (get_or net.sizes v 0) (may.values.range v l))) in
      rw (← (network_fit net t (length t) may.network may.whole), eq-eqb plan.len net.vars may.sized, le-ltb bad net.vars (omega (arith, none)))

  priced-may : (priced net t plan).answer ≡ Done → MayPrice net t plan
  unfolding priced plan_priced
  priced-may e = go (judged net t (length t)) (eqb plan.len net.vars) (ltb bad net.vars) (judged-passed net t (length t)) (eqb-true plan.len net.vars) (ltb-false bad net.vars) (ap number_of e)
    where
      go : (j : Result Outline Unfit) (a b : Bool) → ((o : Outline) → Ok o ≡ j → Passed net t (length t) o) → (a ≡ true → plan.len ≡ net.vars) → (b ≡ false → net.vars ≤ bad) → number_of (answered j a b).answer ≡ 0 → MayPrice net t plan
      go (Ok o) true false f g h e =
          let passed = f o refl in
          record { network = passed.network; whole = passed.roomy; sized = g refl; values = record { range = none_bad net.vars net.sizes plan.choice (h refl) } }
      go (Ok o) true true f g h e = absurd (omega arith)
      go (Ok o) false b f g h e = absurd (omega arith)
      go (Err NoNetwork) a b f g h e = absurd (omega arith)
      go (Err TooShort) a b f g h e = absurd (omega arith)

  refused_priced : ((priced net t plan).answer ≡ Done → ⊥) → priced net t plan ≡ refused_price (priced net t plan).answer
  unfolding priced plan_priced
  refused_priced d = go (judged net t (length t)) (eqb plan.len net.vars) (ltb bad net.vars) d
    where
      go : (j : Result Outline Unfit) (a b : Bool) → ((answered j a b).answer ≡ Done → ⊥) → answered j a b ≡ refused_price (answered j a b).answer
      go (Ok o) true false d = absurd (d refl)
      go (Ok o) true true d = refl
      go (Ok o) false b d = refl
      go (Err why) a b d = refl

  module _ (r : Priced) (promise : r ≡ priced net t plan) where
    -- the answer is Done exactly where nothing stands against the price
    pub price_done : MayPrice net t plan → r.answer ≡ Done
    price_done may = ap (λ (x : Priced). x.answer) (promise ∙ may-priced may)

    pub done_price : r.answer ≡ Done → MayPrice net t plan
    done_price done = priced-may (sym (ap (λ (x : Priced). x.answer) promise) ∙ done)

    done_is : r.answer ≡ Done → r ≡ plan_price n held choice
    done_is done = promise ∙ may-priced (done_price done)

    -- and then the price is the plan's: the capped sum of the constant and of each cost that the plan touches
    pub price_is : r.answer ≡ Done → r.price ≡ price (stands net) (costs_of net.constant t) (value_in plan.choice)
    price_is done = ap (λ (x : Priced). x.price) (done_is done)

    pub price-sum : r.answer ≡ Done → r.price ≡ min net.top (net.constant + sum_to (net.vars + net.functions) (λ s. get_or t (touched (stands net) (value_in plan.choice) s) 0))
    price-sum done = price_is done ∙ price_capped n held choice

    -- and the part that is named is where the plan breaks: the first at which the running sum is k, or nowhere, with a price below k
    pub price_broke : r.answer ≡ Done → Breaks (stands net) (costs_of net.constant t) (value_in plan.choice) r.broke
    price_broke done = subst (λ (x : Priced). Breaks n held choice x.broke) (sym (done_is done)) (broke_breaks n held choice)

    -- it breaks there alone
    pub breaks_price : r.answer ≡ Done → (b : Break) → Breaks (stands net) (costs_of net.constant t) (value_in plan.choice) b → r.broke ≡ b
    breaks_price done b h = ap (λ (x : Priced). x.broke) (done_is done) ∙ breaks_broke n held choice b h

    -- a part is named exactly when the price is k
    pub named_price : r.answer ≡ Done → (r.broke ≡ Nowhere → ⊥) → r.price ≡ net.top
    named_price done d = price_is done ∙ named_full n held choice (λ e. d (ap (λ (x : Priced). x.broke) (done_is done) ∙ e))

    pub price_named : r.answer ≡ Done → r.price ≡ net.top → r.broke ≡ Nowhere → ⊥
    price_named done full e = full_named n held choice (sym (price_is done) ∙ full) (sym (ap (λ (x : Priced). x.broke) (done_is done)) ∙ e)

    -- "Beside a refusal and its place, everything returned is zero", and no part is named
    pub refused_nowhere : (r.answer ≡ Done → ⊥) → r ≡ refused_price r.answer
    refused_nowhere d = subst (λ (x : Priced). x ≡ refused_price x.answer) (sym promise) (refused_priced (λ e. d (ap (λ (x : Priced). x.answer) promise ∙ e)))

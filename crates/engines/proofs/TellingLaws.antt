-- What is told at the end of a search. Assumes nothing.
use Rattle.std.proofs.Common.{Err, Ok, ℕ, ◌-◌, ◌<◌, min, ◌≡◌, sym, ap, ◌∙◌, subst, Bool, true, false, cond, List, ◌++◌, inl, inr, arith, le-ltb, lt-ltb, ltb, length, take, replicate}
use Rattle.costs.specs.declared.networks.Network.{Network}
use Rattle.costs.specs.Net.{Net, Costs, Sound, IsPlan}
use Rattle.costs.specs.Networks.{Outline, stands}
use Rattle.judging.specs.declared.Unfit.{Unfit}
use Rattle.judging.specs.Judging.{judged, refusal_of}
use Rattle.engines.specs.Engines.{State}
use Rattle.engines.specs.declared.progress.Progress.{Progress}
use Rattle.costs.specs.Range.{list_to}
use Rattle.recorder.specs.Ties.Splicing.{verdict_bit, values_of, Finished}
use Rattle.records.specs.Records.{record_of}
use Rattle.engines.specs.Ties.Progressing.{Meets, cost_told}
use Rattle.answers.specs.Answers.{Done}
use Rattle.answers.specs.declared.Refusal.TheVariants.{LongRecord}
use Rattle.records.specs.Words.{bytes_of}
use Rattle.engines.specs.declared.results.Searched.{Searched}
use Rattle.costs.specs.Cheapest.{value_in, Cheapest, RightAnswer}
use Rattle.costs.proofs.ListLaws.{list_at}
use Rattle.costs.proofs.NetLaws.{price-same}
use Rattle.engines.specs.Results.{SearchLeft, refused_search, finished_search, record_bytes, refused_left, finished_left, ended_left, leaves_of}
use Rattle.recorder.proofs.SpliceLaws.{values_size}

pub zeros_all : (o u : List ℕ) → u ≡ take 0 o ++ replicate (length o - 0) 0 → u ≡ replicate (length o) 0
zeros_all o u e = let z : length o - 0 ≡ length o = omega arith in e ∙ ap (λ (m : ℕ). replicate m 0) z

-- a plan of all variables was found
whole_plan : (vars : ℕ) (found : Bool) (plan q : List ℕ) → q ≡ values_of vars found plan → length q ≡ vars → q ≡ list_to vars (value_in plan)
whole_plan vars found plan q e l = let same : cond found vars 0 ≡ vars = sym (values_size vars found plan) ∙ sym (ap length e) ∙ l in e ∙ ap (λ (m : ℕ). list_to m (value_in plan)) same

-- the values of a right answer: those of the whole plan where its cost is below k
answer_values : (n : Net) (held : Costs) (asked : Bool) (x : Progress) (plan o : List ℕ) (s : State) → Meets asked n.vars x plan o s → RightAnswer n held s.plan s.best
    → s.plan ≡ values_of n.vars (ltb x.best n.top) plan
answer_values n held asked x plan o s m (inl h) = h.plan ∙ rw (m.best, h.best_is, le-ltb n.top n.top (omega arith))
answer_values n held asked x plan o s m (inr h) = whole_plan n.vars x.found plan s.plan m.plan h.whole ∙ rw (m.best, lt-ltb s.best n.top h.cheapest.below)

-- the plan that was found stands in the code's bytes
module _ (n : Net) (good : Sound n) (held : Costs) (asked : Bool) (x : Progress) (plan o : List ℕ) (s : State) (m : Meets asked n.vars x plan o s) where
  found_there : Cheapest n held s.plan s.best → (v : ℕ) → v < n.vars → value_in s.plan v ≡ value_in plan v
  found_there h v l = rw (whole_plan n.vars x.found plan s.plan m.plan h.whole) (list_at n.vars (value_in plan) v l)

  -- so it is a plan
  pub answer_plan : RightAnswer n held s.plan s.best → x.best < n.top → IsPlan n (value_in plan)
  answer_plan (inl h) l = absurd (omega (arith, m.best, h.best_is))
  answer_plan (inr h) l = record { range = λ v k. rw (← found_there h v k) (h.cheapest.plan.range v k) }

  -- and its price is the best: the cost that is told
  answer_cost : RightAnswer n held s.plan s.best → (found : Bool) → found ≡ ltb x.best n.top → (cost : ℕ) → cost ≡ cost_told n held found plan → cost ≡ s.best
  answer_cost (inl h) found is cost e = e ∙ rw (is, m.best, h.best_is, le-ltb n.top n.top (omega arith))
  answer_cost (inr h) found is cost e = e ∙ rw (is, m.best, lt-ltb s.best n.top h.cheapest.below) (sym (price-same n good held (value_in s.plan) (value_in plan) (found_there h)) ∙ h.cheapest.priced)

-- a record that was asked for
module _ (n : Net) (room : ℕ) (s : State) (fits : Bool) (u : List ℕ) (h : Finished (record_bytes n s) room fits u) where
  abbrev whole : SearchLeft
  whole = record { result = finished_search s.plan s.best s.count; out = record_bytes n s ++ replicate (room - length (record_bytes n s)) 0 }

  abbrev cut : SearchLeft
  cut = refused_left room (Err LongRecord)

  chosen : cond fits whole cut ≡ finished_left n true room s
  chosen = ap (λ (b : Bool). cond b whole cut) h.fits_is

  finished_fits : fits ≡ true → ◌≡◌ {A = SearchLeft} (record { result = finished_search s.plan s.best s.count; out = u }) (finished_left n true room s)
  finished_fits f = ap (λ (o : List ℕ). record { result = finished_search s.plan s.best s.count; out = o }) (rw f at h.holds) ∙ (rw f at chosen)

-- what is told of a search that came so far
module _ (n : Net) (asked : Bool) (s : State) (x : Progress) (plan o : List ℕ) (m : Meets asked n.vars x plan o s) where
  module _ (good : Sound n) (held : Costs) (right : s.ended ≡ Done → RightAnswer n held s.plan s.best) (goes : x.over ≡ false) (found : Bool) (is : found ≡ ltb x.best n.top) (cost : ℕ) (cost-is : cost ≡ cost_told n held found plan) where
    goes_on : s.ended ≡ Done
    goes_on = rw goes at m.ended

    its_plan : s.plan ≡ values_of n.vars found plan
    its_plan = rw is (answer_values n held asked x plan o s m (right goes_on))

    its_cost : cost ≡ s.best
    its_cost = answer_cost n good held asked x plan o s m (right goes_on) found is cost cost-is

    leaves_finished : (b : Bool) → asked ≡ b → finished_left n b (length o) s ≡ ended_left n asked (length o) s
    leaves_finished b a = rw (goes_on, a)

    -- the result as the code hands it back
    told_result : (r : Searched) → r ≡ finished_search (values_of n.vars found plan) cost x.nodes → r ≡ finished_search s.plan s.best s.count
    told_result r e = e ∙ rw (its_plan, ← its_cost, ← m.nodes)

    pub tells_unrecorded : (r : Searched) (u : List ℕ) → r ≡ finished_search (values_of n.vars found plan) cost x.nodes → asked ≡ false → u ≡ replicate (length o) 0
        → ◌≡◌ {A = SearchLeft} (record { result = r; out = u }) (ended_left n asked (length o) s)
    tells_unrecorded r u e unasked z = rw z (ap (λ (q : Searched). record { result = q; out = replicate (length o) 0 }) (told_result r e) ∙ leaves_finished false unasked)

    module _ (wanted : asked ≡ true) (fits : Bool) (u : List ℕ) (h : Finished (bytes_of (record_of n.vars (verdict_bit found) cost (values_of n.vars found plan) s.steps)) (length o) fits u) where
      record_is : Finished (record_bytes n s) (length o) fits u
      record_is = let e : record_bytes n s ≡ bytes_of (record_of n.vars (verdict_bit found) cost (values_of n.vars found plan) s.steps) = rw (its_plan, its_cost, is, m.best) in subst (λ (b : List ℕ). Finished b (length o) fits u) (sym e) h

      pub tells_recorded : (r : Searched) → r ≡ finished_search (values_of n.vars found plan) cost x.nodes → fits ≡ true → ◌≡◌ {A = SearchLeft} (record { result = r; out = u }) (ended_left n asked (length o) s)
      tells_recorded r e f = ap (λ (q : Searched). record { result = q; out = u }) (told_result r e) ∙ finished_fits n (length o) s fits u record_is f ∙ leaves_finished true wanted

-- what a call leaves that the judge refuses, and one that it lets search
module _ (net : Network) (held : List ℕ) (work out : ℕ) (asked : Bool) (s : State) where
  pub leaves_refused : (why : Unfit) (r : Searched) (u : List ℕ) → Err why ≡ judged net held (min (length held) work) → r ≡ refused_search (refusal_of why) → u ≡ replicate out 0
      → ◌≡◌ {A = SearchLeft} (record { result = r; out = u }) (leaves_of net held work out asked s)
  unfolding leaves_of
  leaves_refused why r u e q z = rw (← e, q, z)

  pub leaves-told : (o : Outline) (l : SearchLeft) (room : ℕ) → Ok o ≡ judged net held (min (length held) work) → room ≡ out → l ≡ ended_left (stands net) asked room s → l ≡ leaves_of net held work out asked s
  unfolding leaves_of
  leaves-told o l room e same h = rw (← e) (h ∙ ap (λ (k : ℕ). ended_left (stands net) asked k s) same)

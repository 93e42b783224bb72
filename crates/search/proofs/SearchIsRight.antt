-- Demand 2 for the public call: the right answer, and 11 and 12 exactly when document 01 says. Assumes nothing.
use Rattle.std.proofs.Common.{Err, Ok, ℕ, ◌≤◌, ◌<◌, min, ◌≡◌, refl, sym, ap, ◌∙◌, Bool, true, ◌⊎◌, inl, inr, ⊎_elim, ◌≢◌, List, arith, length}
use Rattle.std.proofs.Math.Decide.{dec_le}
use Rattle.answers.specs.Answers.{Answer, Done, number_of}
use Rattle.answers.specs.declared.Refusal.TheVariants.{OverBudget, LongRecord}
use Rattle.costs.specs.declared.networks.Network.{Network}
use Rattle.costs.specs.Net.{costs_of}
use Rattle.costs.specs.Networks.{stands}
use Rattle.judging.specs.declared.Unfit.TheVariants.{NoNetwork, TooShort}
use Rattle.judging.specs.Judging.{judged, Lent, Judgement}
use Rattle.judging.proofs.JudgeLaws.{lent_fit, fit_lent}
use Rattle.engines.specs.declared.results.Searched.{Searched}
use Rattle.engines.specs.Engines.{State}
use Rattle.engines.specs.Results.{SearchLeft, finished_search, finished_left, ended_left, judged_left, leaves_of}
use Rattle.engines.proofs.BudgetLaws.{same_within, refused_past}
use Rattle.engines.proofs.ResultLaws.{ended_finished, finished_ways}
use Rattle.visiting.specs.FirstSearch.{first_engine, whole_search, nodes_needed}
use Rattle.search.specs.Doors.{search_of, search_leaves, whole_record, FoundRight}
use Rattle.search.proofs.WholeSearch.{whole_ends, whole_answer}

module _ (net : Network) (held : List ℕ) where
  abbrev whole : State
  whole = whole_search (stands net) (costs_of net.constant held)

  -- how many nodes are needed, and what the search that nothing ends hands back
  abbrev needed : ℕ
  needed = nodes_needed (stands net) (costs_of net.constant held)

  abbrev whole_result : Searched
  whole_result = finished_search whole.plan whole.best needed

  whole_right : (work : ℕ) → Lent net held work → (r : Searched) → r ≡ whole_result → FoundRight net held r
  whole_right work lent r e = record {
    answer = ap (λ (x : Searched). x.answer) e;
    values = whole.plan;
    plan = ap (λ (x : Searched). x.plan) e;
    right = rw e (whole_answer net held work lent);
    nodes = ap (λ (x : Searched). x.nodes) e;
  }

  -- the same in one equation
  pub found_is : (r : Searched) (f : FoundRight net held r) → r ≡ finished_search f.values r.cost needed
  found_is r f = λ i. record { answer = f.answer i; cost = r.cost; plan = f.plan i; nodes = f.nodes i }

module _ (net : Network) (held : List ℕ) (work out : ℕ) (asked : Bool) (limit : ℕ) where
  abbrev left : SearchLeft
  left = search_leaves net held work out asked limit

  by_judge : (j : Judgement) → judged net held (min (length held) work) ≡ j → (a : Answer) → (judged_left j out (ended_left (stands net) asked out (search_of net held limit))).result.answer ≡ a → number_of a ≢ 7 → number_of a ≢ 8 → Lent net held work
  by_judge (Ok o) q a e not7 not8 = fit_lent net held work o (sym q)
  by_judge (Err NoNetwork) q a e not7 not8 = absurd (not8 (sym (ap number_of e)))
  by_judge (Err TooShort) q a e not7 not8 = absurd (not7 (sym (ap number_of e)))

  -- a call that the judge does not refuse was lent a network and working room
  passed : (a : Answer) → left.result.answer ≡ a → number_of a ≢ 7 → number_of a ≢ 8 → Lent net held work
  unfolding leaves_of
  passed a e not7 not8 = by_judge (judged net held (min (length held) work)) refl a e not7 not8

  module _ (lent : Lent net held work) where
    leaves_ended : left ≡ ended_left (stands net) asked out (search_of net held limit)
    unfolding leaves_of
    leaves_ended = rw (← (lent_fit net held work lent))

    -- "11: more nodes needed than the budget"
    pub over_refused : limit < needed net held → left.result.answer ≡ Err OverBudget
    unfolding search_of
    over_refused more =
        ap (λ (l : SearchLeft). l.result.answer) leaves_ended ∙ rw (refused_past (first_engine (stands net) (costs_of net.constant held)) limit more)

    -- within the budget the search is the one without it
    pub leaves-whole : needed net held ≤ limit → left ≡ finished_left (stands net) asked out (whole net held)
    unfolding search_of
    leaves-whole enough =
        leaves_ended
        ∙ ap (λ (s : State). ended_left (stands net) asked out s) (same_within (first_engine (stands net) (costs_of net.constant held)) limit enough)
        ∙ ended_finished (stands net) asked out (whole net held) (whole_ends net held)

    -- the ways in which the call ends, each with what it takes
    ways : ((limit < needed net held) × (left.result.answer ≡ Err OverBudget))
        ⊎ (((needed net held ≤ limit) × (asked ≡ true) × (out < length (whole_record net held)) × (left.result.answer ≡ Err LongRecord))
        ⊎ ((needed net held ≤ limit) × (asked ≡ true → length (whole_record net held) ≤ out) × (left.result ≡ whole_result net held)))
    ways = elim (dec_le (needed net held) limit) [
      | no more ↦ let m : limit < needed net held = omega (arith, more) in inl (m, over_refused m)
      | yes enough ↦
          let e = ap (λ (l : SearchLeft). l.result) (leaves-whole enough) in
          inr (⊎_elim (λ h. inl (enough, h.0, h.1, ap (λ (r : Searched). r.answer) e ∙ h.2)) (λ h. inr (enough, h.0, e ∙ h.1)) (finished_ways (stands net) asked out (whole net held)))
    ]

    -- "12: whole record longer than the lent buffer, a record being asked for"
    pub long_refused : needed net held ≤ limit → asked ≡ true → out < length (whole_record net held) → left.result.answer ≡ Err LongRecord
    long_refused enough wanted long = ⊎_elim (λ h. absurd (omega (arith, h.0))) (⊎_elim (λ h. h.3) (λ h. absurd (let l = h.1 wanted in omega (arith, l)))) ways

    -- "Given a sound network and enough budget, working room and record room"
    pub search_right : needed net held ≤ limit → (asked ≡ true → length (whole_record net held) ≤ out) → FoundRight net held left.result
    search_right enough roomy =
        ⊎_elim (λ h. absurd (omega (arith, h.0))) (⊎_elim (λ h. absurd (let l = roomy h.1 in omega (arith, l, h.2))) (λ h. whole_right net held work lent left.result h.2)) ways

    -- nothing else is answered
    pub lent_answers : (left.result.answer ≡ Done) ⊎ ((left.result.answer ≡ Err OverBudget) ⊎ (left.result.answer ≡ Err LongRecord))
    lent_answers = ⊎_elim (λ h. inr (inl h.1)) (⊎_elim (λ h. inr (inr h.3)) (λ h. inl (ap (λ (r : Searched). r.answer) h.2))) ways

  -- the same from the answer alone
  unlike : {A : Type 0} (a b : Answer) → left.result.answer ≡ a → left.result.answer ≡ b → number_of a ≢ number_of b → A
  unlike a b e f d = absurd (d (ap number_of (sym e ∙ f)))

  finished : left.result ≡ whole_result net held → left.result.answer ≡ Done
  finished e = ap (λ (r : Searched). r.answer) e

  pub refused_over : left.result.answer ≡ Err OverBudget → Lent net held work × (limit < needed net held)
  refused_over e =
      let lent = passed (Err OverBudget) e (λ z. omega (arith, z)) (λ z. omega (arith, z)) in
      (lent, ⊎_elim (λ h. h.0) (⊎_elim (λ h. unlike (Err OverBudget) (Err LongRecord) e h.3 (λ z. omega (arith, z))) (λ h. unlike (Err OverBudget) Done e (finished h.2) (λ z. omega (arith, z)))) (ways lent))

  pub refused_long : left.result.answer ≡ Err LongRecord → Lent net held work × (needed net held ≤ limit) × (asked ≡ true) × (out < length (whole_record net held))
  refused_long e =
      let lent = passed (Err LongRecord) e (λ z. omega (arith, z)) (λ z. omega (arith, z)) in
      ⊎_elim (λ h. unlike (Err LongRecord) (Err OverBudget) e h.1 (λ z. omega (arith, z)))
      (⊎_elim (λ h. (lent, h.0, h.1, h.2)) (λ h. unlike (Err LongRecord) Done e (finished h.2) (λ z. omega (arith, z)))) (ways lent)

  done_whole : left.result.answer ≡ Done → Lent net held work × (needed net held ≤ limit) × (asked ≡ true → length (whole_record net held) ≤ out) × (left.result ≡ whole_result net held)
  done_whole e =
      let lent = passed Done e (λ z. omega (arith, z)) (λ z. omega (arith, z)) in
      ⊎_elim (λ h. unlike Done (Err OverBudget) e h.1 (λ z. omega (arith, z)))
      (⊎_elim (λ h. unlike Done (Err LongRecord) e h.3 (λ z. omega (arith, z))) (λ h. (lent, h.0, h.1, h.2))) (ways lent)

  -- what a caller has in hand after a success
  pub done_right : left.result.answer ≡ Done → Lent net held work × (needed net held ≤ limit) × (asked ≡ true → length (whole_record net held) ≤ out) × FoundRight net held left.result
  done_right e = let d = done_whole e in (d.0, d.1, d.2, whole_right net held work d.0 left.result d.3)

-- "and is the same when no record is asked for": calls that succeed hand back the same plan, cost and count, whatever they were lent, asked and allowed
pub same_result : (net : Network) (held : List ℕ) (work work' out out' : ℕ) (asked asked' : Bool) (limit limit' : ℕ)
    → (search_leaves net held work out asked limit).result.answer ≡ Done → (search_leaves net held work' out' asked' limit').result.answer ≡ Done
    → (search_leaves net held work out asked limit).result ≡ (search_leaves net held work' out' asked' limit').result
same_result net held work work' out out' asked asked' limit limit' e f = (done_whole net held work out asked limit e).3 ∙ sym (done_whole net held work' out' asked' limit' f).3

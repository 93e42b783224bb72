-- The public call, as its code goes. Assumes nothing.
use Rattle.std.proofs.Common.{true, Ok, Err, ℕ, ◌-◌, ◌≤◌, ◌<◌, min, ◌≡◌, refl, sym, ap, ◌∙◌, subst, Bool, false, List, arith, length, replicate}
use Rattle.answers.specs.Answers.{Done}
use Rattle.costs.specs.declared.networks.Network.{Network}
use Rattle.judging.specs.declared.judged.Judged.{Judged}
use Rattle.judging.specs.Outlined.{outline_in}
use Rattle.costs.specs.Limits.{vars_most}
use Rattle.costs.specs.Net.{IsPlan, costs_of}
use Rattle.costs.specs.Networks.{outline_of, stands}
use Rattle.costs.specs.Cheapest.{value_in, RightAnswer}
use Rattle.costs.proofs.RowLaws.{scoped_sound}
use Rattle.judging.specs.declared.Unfit.{Unfit}
use Rattle.judging.specs.Judging.{judged, refusal_of}
use Rattle.judging.proofs.JudgeLaws.{judged-passed, judged_room}
use Rattle.tables.proofs.TableLaws.{zero_at}
use Rattle.bounds.specs.Ties.Noting.{notes_most}
use Rattle.engines.specs.declared.results.Searched.{Searched}
use Rattle.engines.specs.declared.progress.Progress.{Progress}
use Rattle.engines.specs.Engines.{State, begin, budget}
use Rattle.engines.specs.Results.{SearchLeft, refused_search, ended_left}
use Rattle.engines.specs.Ties.Progressing.{Meets, beginning, Told}
use Rattle.engines.proofs.ProgressLaws.{begin_meets}
use Rattle.engines.proofs.TellingLaws.{answer_plan, leaves_refused, leaves-told}
use Rattle.search.specs.Doors.{search_of, search_leaves}
use Rattle.visiting.specs.Ties.Visiting.{Fixes, Enters, visited, Visits, searched_in}
use Rattle.visiting.proofs.FirstSearchRight.{first_answer}

-- at the root no variable is fixed
abbrev pub root_bytes : List ℕ
root_bytes = replicate vars_most 0

fixes_none : (sizes : List ℕ) → Fixes root_bytes sizes 0
fixes_none sizes = record { some = λ v l. absurd (omega arith); sized = λ v l. absurd (omega arith); free = λ v l. zero_at vars_most v }

-- a judged network's parts, and its search
module _ (judged : Judged) (held : List ℕ) where
  abbrev net : Network
  net = judged.network.now

  pub enters_root : (asked : Bool) (room notes plan : ℕ) → judged.entries ≤ room → (asked ≡ true → notes_most ≤ notes) → plan ≡ vars_most → Enters judged asked root_bytes 0 room notes plan
  enters_root asked room notes plan roomy noted plan_long = record {
    roomy = roomy;
    noted = noted;
    plan_long = plan_long;
    node_long = refl;
    within = omega arith;
    fixes = fixes_none net.sizes;
  }

  searched-answers : 1 ≤ net.top → (limit : ℕ) → (searched_in net held limit).ended ≡ Done
      → RightAnswer (stands net) (costs_of net.constant held) (searched_in net held limit).plan (searched_in net held limit).best
  unfolding searched_in
  searched-answers some limit ended = first_answer (stands net) (scoped_sound (outline_of net) net.sizes net.scopes judged.ready.scoped) (costs_of net.constant held) judged.ready.constant_most some (budget limit) ended

  module _ (asked : Bool) (limit : ℕ) (out : List ℕ) (b x : Progress) (plan out' : List ℕ) (begins : b ≡ beginning net.top (length out))
      (visits : Visits net held asked limit root_bytes 0 b root_bytes out x plan out') where
    visited-whole : visited (stands net) (costs_of net.constant held) limit root_bytes 0 (begin net.top) ≡ searched_in net held limit
    unfolding searched_in
    visited-whole = let e : net.vars - 0 ≡ net.vars = omega arith in rw e

    pub done_meets : Meets asked net.vars x plan out' (searched_in net held limit)
    done_meets =
        subst (λ (s : State). Meets asked net.vars x plan out' s) visited-whole
        (visits (begin net.top) (subst (λ (y : Progress). Meets asked net.vars y root_bytes out (begin net.top)) (sym begins) (begin_meets asked net.top net.vars out)))

    -- what a search that has not been ended tells its cost from is a plan
    pub search_plan : 1 ≤ net.top → x.over ≡ false → x.best < net.top → IsPlan (stands net) (value_in plan)
    search_plan some goes below =
        answer_plan (stands net) (scoped_sound (outline_of net) net.sizes net.scopes judged.ready.scoped) (costs_of net.constant held) asked x plan out' (searched_in net held limit) done_meets
        (searched-answers some limit (rw goes at done_meets.ended)) below

    pub search_told : 1 ≤ net.top → (r : Searched) (u : List ℕ) → length out' ≡ length out → Told net held asked x plan out' r u
        → ◌≡◌ {A = SearchLeft} (record { result = r; out = u }) (ended_left (stands net) asked (length out) (searched_in net held limit))
    search_told some r u same told =
        told (searched_in net held limit) done_meets (searched-answers some limit) ∙ ap (λ (m : ℕ). ended_left (stands net) asked m (searched_in net held limit)) same

-- what the judge has told, where `room` is the shorter of the two tables
module _ (net : Network) (held : List ℕ) (work out : ℕ) (asked : Bool) (limit room : ℕ) (shorter : room ≡ min (length held) work) where
  pub search_refused : (why : Unfit) → Err why ≡ judged net held room → (r : Searched) (u : List ℕ) → r ≡ refused_search (refusal_of why) → u ≡ replicate out 0
      → ◌≡◌ {A = SearchLeft} (record { result = r; out = u }) (search_leaves net held work out asked limit)
  search_refused why e r u is zeros = leaves_refused net held work out asked (search_of net held limit) why r u (rw (← shorter) e) is zeros

  module _ (passed : Judged) (same : passed.network.now ≡ net) (e : Ok (outline_in passed) ≡ judged net held room) where
    fits : Ok (outline_in passed) ≡ judged net held (min (length held) work)
    fits = rw (← shorter) e

    pub passed_roomy : (1 ≤ passed.network.now.top) × (passed.entries ≤ work)
    passed_roomy = let roomy = judged_room net held room passed e in (rw same (judged-passed net held room (outline_in passed) e).network.top_some, omega (arith, roomy, shorter))

    pub held_whole : passed.entries ≤ length held
    held_whole = let roomy = judged_room net held room passed e in omega (arith, roomy, shorter)

    pub passed_leaves : (l : SearchLeft) → l ≡ ended_left (stands passed.network.now) asked out (searched_in passed.network.now held limit) → l ≡ search_leaves net held work out asked limit
    unfolding search_of searched_in
    passed_leaves l h = leaves-told net held work out asked (search_of net held limit) (outline_in passed) l out fits refl (rw same at h)

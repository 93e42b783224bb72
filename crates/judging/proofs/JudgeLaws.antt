-- What refusal 8 judges, as facts: the test `is_network` and the record `IsNetwork` say the same. Assumes nothing.
use Rattle.std.proofs.Common.{ℕ, ◌≤◌, ◌<◌, min, ◌≡◌, refl, sym, ap, ◌∙◌, Bool, true, false, cond, List, [], ◌∷◌, arith, T, leb, ltb, leb→le, le→leb, leb-false, le-leb, length, get_or, Ok, Err, Some, None, take, get_or-take, length-take-le}
use Rattle.std.proofs.lemmas.Bool.{lt-leb}
use Rattle.costs.proofs.NetLaws.{tuples_unary}
use Rattle.costs.proofs.RangeLaws.{sum_to-same}
use Rattle.costs.specs.Range.{sum_to}
use Rattle.std.specs.List.{list_all}
use Rattle.std.proofs.lemmas.List.Elements.{All-get_or, All-from_get_or}
use Rattle.std.proofs.lemmas.List.Sums.{AllPass-from_list_all, list_all-from_AllPass}
use Rattle.costs.specs.declared.networks.Network.{Network}
use Rattle.costs.specs.Limits.{vars_most, size_most, arity_most, functions_most, cost_most, entries_most}
use Rattle.costs.specs.Net.{Sound, All, entries, tuples, start}
use Rattle.costs.specs.Tests.{between, Different, Decides}
use Rattle.costs.specs.Networks.{Outline, in_row, scope_in, function_start, entries_of, outline_of, stands, with_constant, Scoped, net_of}
use Rattle.costs.proofs.TestLaws.{is_true, is_false, so, not_so, same_test, by_leb, by_ltb, by_eqb, by_self, by_and, by_map, by_all, by_every, by_between, by_different}
use Rattle.costs.proofs.RowLaws.{scoped_sound}
use Rattle.judging.specs.declared.Unfit.TheVariants.{NoNetwork, TooShort}
use Rattle.judging.specs.Judging.{ranges_good, sizes_good, variables_good, row_good, scopes_good, stretches_good, costs_good, is_network, judged, IsNetwork, Lent}
use Rattle.judging.specs.declared.judged.Judged.{Judged}
use Rattle.judging.specs.Ties.Stretches.{stretched}
use Rattle.judging.specs.Outlined.{outline_in}

-- two tests that decide the same
pub same_by : {a b : Bool} {A B : Type 0} → Decides a A → Decides b B → (A → B) → (B → A) → a ≡ b
same_by x y f g = same_test _ _ (λ t. y.finds (f (x.says t))) (λ t. x.finds (g (y.says t)))

-- a test whose flag is false where the fact holds
pub joined : {t b : Bool} {A : Type 0} → Decides b A → t ≡ b → t ≡ false → A → ⊥
joined x is e a = not_so (sym is ∙ e) (x.finds a)

pub by_ranges : (top constant vars functions : ℕ) → Decides (ranges_good top constant vars functions)
    (((1 ≤ top) × (top ≤ cost_most)) × ((constant ≤ top) × ((vars ≤ vars_most) × (functions ≤ functions_most))))
unfolding ranges_good
by_ranges top constant vars functions = by_and (by_between 1 cost_most top) (by_and (by_leb constant top) (by_and (by_leb vars vars_most) (by_leb functions functions_most)))

pub by_variables : (vars : ℕ) (vs : List ℕ) → Decides (variables_good vars vs) (All (λ v. v < vars) vs × Different vs)
unfolding variables_good
by_variables vars vs = by_and (by_every (λ v. ltb v vars) (λ v. v < vars) (λ v. by_ltb v vars) vs) (by_different vs)

pub by_row : (vars : ℕ) (row : ℕ → ℕ) → Decides (row_good vars row) (((2 ≤ row 0) × (row 0 ≤ arity_most)) × (All (λ v. v < vars) (scope_in row) × Different (scope_in row)))
unfolding row_good
by_row vars row = by_and (by_between 2 arity_most (row 0)) (by_variables vars (scope_in row))

pub by_sizes : (vars : ℕ) (sizes : List ℕ) → Decides (sizes_good vars sizes) ((v : ℕ) → v < vars → (1 ≤ get_or sizes v 0) × (get_or sizes v 0 ≤ size_most))
unfolding sizes_good
by_sizes vars sizes = by_all vars (λ v. between 1 size_most (get_or sizes v 0)) (λ v. (1 ≤ get_or sizes v 0) × (get_or sizes v 0 ≤ size_most)) (λ v. by_between 1 size_most (get_or sizes v 0))

-- a row of arity 2 and one of arity 3
pub row_two : (vars : ℕ) (row : ℕ → ℕ) → row 0 ≡ 2 → row_good vars row ≡ variables_good vars (row 1 ∷ row 2 ∷ [])
unfolding row_good
row_two vars row e = rw e

pub row_three : (vars : ℕ) (row : ℕ → ℕ) → row 0 ≡ 3 → row_good vars row ≡ variables_good vars (row 1 ∷ row 2 ∷ row 3 ∷ [])
unfolding row_good
row_three vars row e = rw e

pub by_scopes : (vars functions : ℕ) (rows : List ℕ)
    → Decides (scopes_good vars functions rows) ((f : ℕ) → f < functions → ((2 ≤ in_row rows f 0) × (in_row rows f 0 ≤ arity_most)) × (All (λ v. v < vars) (scope_in (in_row rows f)) × Different (scope_in (in_row rows f))))
unfolding scopes_good
by_scopes vars functions rows = by_all functions _ _ (λ f. by_row vars (in_row rows f))

pub by_stretches : (vars functions : ℕ) (sizes rows starts : List ℕ)
    → Decides (stretches_good vars functions sizes rows starts) ((f : ℕ) → f < functions → get_or starts f 0 ≡ function_start vars sizes rows f)
unfolding stretches_good
by_stretches vars functions sizes rows starts = by_all functions _ _ (λ f. by_eqb (get_or starts f 0) (function_start vars sizes rows f))

module _ (vars functions : ℕ) (sizes rows starts : List ℕ) where
  pub stretched_yes : ((f : ℕ) → f < functions → get_or starts f 0 ≡ function_start vars sizes rows f) → Some (entries_of vars functions sizes rows) ≡ stretched vars functions sizes rows starts
  unfolding stretched
  stretched_yes h = rw (is_true (stretches_good vars functions sizes rows starts) ((by_stretches vars functions sizes rows starts).finds h))

  pub stretched_no : (f : ℕ) → f < functions → (get_or starts f 0 ≡ function_start vars sizes rows f → ⊥) → None ≡ stretched vars functions sizes rows starts
  unfolding stretched
  stretched_no f l d = rw (is_false (stretches_good vars functions sizes rows starts) (λ t. d ((by_stretches vars functions sizes rows starts).says t f l)))

  pub stretched_broken : None ≡ stretched vars functions sizes rows starts → T (stretches_good vars functions sizes rows starts) → ⊥
  unfolding stretched
  stretched_broken e = go (stretches_good vars functions sizes rows starts) e
    where
      go : (b : Bool) → None ≡ cond b (Some (entries_of vars functions sizes rows)) None → T b → ⊥
      go true e = absurd (let z : ◌≡◌ {A = ℕ} 0 1 = cc in omega arith)
      go false e = λ t. t

  pub stretched_end : (many : ℕ) → Some many ≡ stretched vars functions sizes rows starts → T (stretches_good vars functions sizes rows starts) × (many ≡ entries_of vars functions sizes rows)
  unfolding stretched
  stretched_end many e = go (stretches_good vars functions sizes rows starts) e
    where
      go : (b : Bool) → Some many ≡ cond b (Some (entries_of vars functions sizes rows)) None → T b × (many ≡ entries_of vars functions sizes rows)
      go true e = (tt, cc)
      go false e = absurd (let z : ◌≡◌ {A = ℕ} 0 1 = cc in omega arith)

pub by_costs : (top many : ℕ) (t : List ℕ) → Decides (costs_good top many t) ((j : ℕ) → j < min many (length t) → get_or t j 0 ≤ top)
unfolding costs_good
by_costs top many t = by_all (min many (length t)) (λ j. leb (get_or t j 0) top) (λ j. get_or t j 0 ≤ top) (λ j. by_leb (get_or t j 0) top)

-- the same test, of the table's first so many costs
pub costs_all : (top many : ℕ) (t : List ℕ) → list_all (λ cost. leb cost top) (take (min many (length t)) t) ≡ costs_good top many t
costs_all top many t =
    let few = min many (length t) in
    let long : length (take few t) ≡ few = length-take-le few t (omega arith) in
    same_by (by_self _) (by_costs top many t)
    (λ h j l. leb→le (get_or t j 0) top (so (rw (get_or-take few t j 0 l) at (All-get_or (λ cost. leb cost top ≡ true) (take few t) j 0 (omega (arith, long)) (AllPass-from_list_all (λ cost. leb cost top) (take few t) (is_true _ h))))))
    (λ h. so (list_all-from_AllPass (λ cost. leb cost top) (take few t) (All-from_get_or (λ cost. leb cost top ≡ true) (take few t) 0 (λ j l. rw (get_or-take few t j 0 (omega (arith, long))) (is_true _ (le→leb (get_or t j 0) top (h j (omega (arith, long)))))))))

-- the tests of which `is_network` is made
pub record TestsPass (net : Network) (t : List ℕ) : Type 0 where
  pub ranges : T (ranges_good net.top net.constant net.vars net.functions)
  pub sizes : T (sizes_good net.vars net.sizes)
  pub scopes : T (scopes_good net.vars net.functions net.scopes)
  pub stretches : T (stretches_good net.vars net.functions net.sizes net.scopes net.starts)
  pub few : entries (stands net) ≤ entries_most
  pub costs : T (costs_good net.top (entries (stands net)) t)

-- as the judge finds them, `many` being where the last stretch ends
pub tests_passed : (net : Network) (t : List ℕ) (many : ℕ) → T (ranges_good net.top net.constant net.vars net.functions) → T (sizes_good net.vars net.sizes) → T (scopes_good net.vars net.functions net.scopes)
    → T (stretches_good net.vars net.functions net.sizes net.scopes net.starts) → many ≡ entries (stands net) → many ≤ entries_most → T (costs_good net.top many t) → TestsPass net t
tests_passed net t many ranges sizes scopes stretches e few costs = record { ranges = ranges; sizes = sizes; scopes = scopes; stretches = stretches; few = rw e at few; costs = rw e at costs }

pub by_tests : (net : Network) (t : List ℕ) → Decides (is_network net t) (TestsPass net t)
unfolding is_network
by_tests net t =
    by_map
    (λ (ranges, (sizes, (scopes, (stretches, (few, costs))))). record { ranges = ranges; sizes = sizes; scopes = scopes; stretches = stretches; few = few; costs = costs })
    (λ h. (h.ranges, (h.sizes, (h.scopes, (h.stretches, (h.few, h.costs))))))
    (by_and (by_self (ranges_good net.top net.constant net.vars net.functions))
    (by_and (by_self (sizes_good net.vars net.sizes))
    (by_and (by_self (scopes_good net.vars net.functions net.scopes))
    (by_and (by_self (stretches_good net.vars net.functions net.sizes net.scopes net.starts))
    (by_and (by_leb (entries (stands net)) entries_most)
    (by_self (costs_good net.top (entries (stands net)) t)))))))

pub scoped_by : (top constant vars functions : ℕ) (sizes rows : List ℕ)
    → T (ranges_good top constant vars functions) → T (sizes_good vars sizes) → T (scopes_good vars functions rows) → Scoped vars functions sizes rows
scoped_by top constant vars functions sizes rows a b c =
    let ranges = (by_ranges top constant vars functions).says a in
    let sized = (by_sizes vars sizes).says b in
    let scoped = (by_scopes vars functions rows).says c in
    record {
      vars_few = ranges.1.1.0;
      functions_few = ranges.1.1.1;
      sized = λ v l. (sized v l).0;
      small = λ v l. (sized v l).1;
      arity_least = λ f l. (scoped f l).0.0;
      arity_at_most = λ f l. (scoped f l).0.1;
      known = λ f l. (scoped f l).1.0;
    }

-- the test and the facts
pub by_network : (net : Network) (t : List ℕ) → Decides (is_network net t) (IsNetwork net t)
by_network net t =
    by_map
    (λ p.
    let ranges = (by_ranges net.top net.constant net.vars net.functions).says p.ranges in
    record {
      top_some = ranges.0.0;
      ready = record {
        top_most = ranges.0.1;
        constant_most = ranges.1.0;
        scoped = scoped_by net.top net.constant net.vars net.functions net.sizes net.scopes p.ranges p.sizes p.scopes;
        placed = (by_stretches net.vars net.functions net.sizes net.scopes net.starts).says p.stretches;
        entries_is = refl;
        few = p.few;
      };
      distinct = λ f l. ((by_scopes net.vars net.functions net.scopes).says p.scopes f l).1.1;
      costs = λ j l m. (by_costs net.top (entries (stands net)) t).says p.costs j (omega arith);
    })
    (λ h.
    let scoped = h.ready.scoped in
    record {
      ranges = (by_ranges net.top net.constant net.vars net.functions).finds ((h.top_some, h.ready.top_most), (h.ready.constant_most, (scoped.vars_few, scoped.functions_few)));
      sizes = (by_sizes net.vars net.sizes).finds (λ v l. (scoped.sized v l, scoped.small v l));
      scopes = (by_scopes net.vars net.functions net.scopes).finds (λ f l. ((scoped.arity_least f l, scoped.arity_at_most f l), (scoped.known f l, h.distinct f l)));
      stretches = (by_stretches net.vars net.functions net.sizes net.scopes net.starts).finds h.ready.placed;
      few = h.ready.few;
      costs = (by_costs net.top (entries (stands net)) t).finds (λ j l. h.costs j (omega arith) (omega arith));
    })
    (by_tests net t)

-- what a call knows where the judge refuses nothing
pub record Passed (net : Network) (t : List ℕ) (room : ℕ) (o : Outline) : Type 0 where
  pub network : IsNetwork net t
  pub outline : o ≡ outline_of net
  pub roomy : entries (stands net) ≤ room

pub judged-passed : (net : Network) (t : List ℕ) (room : ℕ) (o : Outline) → Ok o ≡ judged net t room → Passed net t room o
unfolding judged
judged-passed net t room o e = go (is_network net t) (leb (entries (stands net)) room) (by_network net t).says (leb→le (entries (stands net)) room) e
  where
    go : (a b : Bool) → (T a → IsNetwork net t) → (T b → entries (stands net) ≤ room) → Ok o ≡ cond a (cond b (Ok (outline_of net)) (Err TooShort)) (Err NoNetwork) → Passed net t room o
    go true true f g e = record { network = f tt; outline = cc; roomy = g tt }
    go true false f g e = absurd (let z : ◌≡◌ {A = ℕ} 0 1 = cc in omega arith)
    go false b f g e = absurd (let z : ◌≡◌ {A = ℕ} 0 1 = cc in omega arith)

-- its tables are long enough
pub judged_room : (net : Network) (t : List ℕ) (room : ℕ) (j : Judged) → Ok (outline_in j) ≡ judged net t room → j.entries ≤ room
judged_room net t room j e =
    let passed = judged-passed net t room (outline_in j) e in
    let same : j.entries ≡ entries (stands net) = ap (λ (o : Outline). o.entries) passed.outline in
    omega (arith, same, passed.roomy)

-- what the judge answers, in each of its three cases
pub judged_not : (net : Network) (t : List ℕ) (room : ℕ) → (TestsPass net t → ⊥) → Err NoNetwork ≡ judged net t room
unfolding judged
judged_not net t room h = rw (is_false (is_network net t) (λ x. h ((by_tests net t).says x)))

pub judged_short : (net : Network) (t : List ℕ) (room many : ℕ) → TestsPass net t → many ≡ entries (stands net) → room < many → Err TooShort ≡ judged net t room
unfolding judged
judged_short net t room many h e l = rw (is_true (is_network net t) ((by_tests net t).finds h), lt-leb (entries (stands net)) room (rw e at l))

pub judged_fit : (net : Network) (t : List ℕ) (room many : ℕ) → TestsPass net t → many ≡ entries (stands net) → many ≤ room
    → Ok (record { top = net.top; constant = net.constant; vars = net.vars; functions = net.functions; entries = many }) ≡ judged net t room
unfolding judged
judged_fit net t room many h e l = rw (is_true (is_network net t) ((by_tests net t).finds h), le-leb (entries (stands net)) room (rw e at l), e)

-- the judge lets pass a network beside tables long enough
pub network_fit : (net : Network) (t : List ℕ) (room : ℕ) → IsNetwork net t → entries (stands net) ≤ room → Ok (outline_of net) ≡ judged net t room
network_fit net t room h l = judged_fit net t room (entries (stands net)) ((by_tests net t).says ((by_network net t).finds h)) refl l

-- "lent numbers are not a network": 8, exactly there
pub judged_eight : (net : Network) (t : List ℕ) (room : ℕ) → (IsNetwork net t → ⊥) → Err NoNetwork ≡ judged net t room
judged_eight net t room h = judged_not net t room (λ x. h ((by_network net t).says ((by_tests net t).finds x)))

-- "a lent table shorter than E": 7, exactly there
pub judged_seven : (net : Network) (t : List ℕ) (room : ℕ) → IsNetwork net t → room < entries (stands net) → Err TooShort ≡ judged net t room
judged_seven net t room h l = judged_short net t room (entries (stands net)) ((by_tests net t).says ((by_network net t).finds h)) refl l

module _ (net : Network) (t : List ℕ) (room : ℕ) where
  pub eight_judged : Err NoNetwork ≡ judged net t room → IsNetwork net t → ⊥
  unfolding judged
  eight_judged e h = go (is_network net t) (leb (entries (stands net)) room) ((by_network net t).finds h) e
    where
      go : (a b : Bool) → T a → Err NoNetwork ≡ cond a (cond b (Ok (outline_of net)) (Err TooShort)) (Err NoNetwork) → ⊥
      go true true t e = let z : ◌≡◌ {A = ℕ} 0 1 = cc in omega arith
      go true false t e = let z : ◌≡◌ {A = ℕ} 0 1 = cc in omega arith
      go false b t e = t

  pub seven_judged : Err TooShort ≡ judged net t room → IsNetwork net t × (room < entries (stands net))
  unfolding judged
  seven_judged e = go (is_network net t) (leb (entries (stands net)) room) (by_network net t).says (leb-false (entries (stands net)) room) e
    where
      go : (a b : Bool) → (T a → IsNetwork net t) → (b ≡ false → room < entries (stands net)) → Err TooShort ≡ cond a (cond b (Ok (outline_of net)) (Err TooShort)) (Err NoNetwork)
          → IsNetwork net t × (room < entries (stands net))
      go true true f g e = absurd (let z : ◌≡◌ {A = ℕ} 0 1 = cc in omega arith)
      go true false f g e = (f tt, g refl)
      go false b f g e = absurd (let z : ◌≡◌ {A = ℕ} 0 1 = cc in omega arith)

-- and what was lent
pub lent_fit : (net : Network) (held : List ℕ) (room : ℕ) → Lent net held room → Ok (outline_of net) ≡ judged net held (min (length held) room)
lent_fit net held room l = network_fit net held (min (length held) room) l.network (omega (arith, l.held_whole, l.room_enough))

pub fit_lent : (net : Network) (held : List ℕ) (room : ℕ) (o : Outline) → Ok o ≡ judged net held (min (length held) room) → Lent net held room
fit_lent net held room o e =
    let passed = judged-passed net held (min (length held) room) o e in
    record { network = passed.network; held_whole = omega (arith, passed.roomy); room_enough = omega (arith, passed.roomy) }

-- a network with another constant and other costs, at most k as well
pub network_again : (net : Network) (t u : List ℕ) (constant : ℕ) → IsNetwork net t → constant ≤ net.top → ((j : ℕ) → j < entries (stands net) → get_or u j 0 ≤ net.top) → IsNetwork (with_constant net constant) u
network_again net t u constant h low costs = record {
  top_some = h.top_some;
  ready = record {
    top_most = h.ready.top_most;
    constant_most = low;
    scoped = h.ready.scoped;
    placed = h.ready.placed;
    entries_is = refl;
    few = h.ready.few;
  };
  distinct = h.distinct;
  costs = λ j l m. costs j l;
}

pub network_sound : (net : Network) (t : List ℕ) → IsNetwork net t → Sound (stands net)
network_sound net t h = scoped_sound (outline_of net) net.sizes net.scopes h.ready.scoped

-- where the unary stretches begin
pub start_first : (o : Outline) (sizes rows : List ℕ) → Scoped o.vars o.functions sizes rows → (v : ℕ) → v < o.vars → start (net_of o sizes rows) v ≡ sum_to v (λ w. get_or sizes w 0)
start_first o sizes rows r v l =
    let n = net_of o sizes rows in
    sum_to-same v (λ w. get_or sizes w 0) (λ w. tuples n.size (n.scope w)) (λ w m. tuples_unary n (scoped_sound o sizes rows r) w (omega arith))

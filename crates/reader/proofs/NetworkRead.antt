-- What was read is a network: refusal 8 never follows a successful read. Assumes nothing.
use Rattle.std.proofs.Common.{ℕ, zero, suc, ◌+◌, ◌-◌, ◌*◌, ◌≤◌, ◌<◌, ◌≡◌, refl, sym, ap, ◌∙◌, Bool, true, false, cond, ◌≢◌, List, [], ◌∷◌, ◌++◌, mul-one, arith, T, ltb, lt→ltb, length, get_or, take, drop, set, replicate, length-append, length-set, length-take, length-drop, get_or-set_same, get_or-set_other}
use native.Mathlib.Decide.{ℕ_discrete, dec_lt}
use lib.ListN.{length-replicate, get_or-append}
use Rattle.costs.specs.Limits.{vars_most, arity_most, row_places, functions_most, entries_most}
use Rattle.costs.specs.Net.{All, tuples, start}
use Rattle.costs.specs.Networks.{in_row, scope_in, stands}
use Rattle.costs.specs.Tests.{different}
use Rattle.judging.specs.Judging.{IsNetwork}
use Rattle.costs.specs.declared.networks.Network.{Network}
use Rattle.costs.proofs.TestLaws.{by_different}
use Rattle.costs.proofs.RangeLaws.{sum_to-same, sum_to_mono}
use Rattle.costs.proofs.NetLaws.{All-append, All-at}
use Rattle.costs.proofs.RowLaws.{scope_unary, scope-function}
use Rattle.tokens.specs.Tokens.{Text}
use Rattle.tokens.specs.Steps.{Got, got, refused}
use Rattle.tokens.proofs.StepLaws.{and_then_lem, same-value}
use Rattle.tokens.proofs.NumberLaws.{in_range}
use Rattle.headings.specs.Domains.{Sized}
use Rattle.scopes.specs.Scopes.{scope_sizes}
use Rattle.stretches.specs.Sizes.{product}
use Rattle.placing.specs.Drafts.{Draft, sums, unary_start, added_at, with_function, row_set, put}
use Rattle.functions.specs.Functions.{placed, function, functions}
use Rattle.function_costs.specs.FunctionCosts.{costs}
use Rattle.reader.specs.Reading.{started, rest, body, network}
use Rattle.headings.specs.declared.headers.Head.{Head}
use Rattle.headings.specs.Ties.Ranges.{InRange, Good}
use Rattle.headings.proofs.HeaderLaws.{header-range}
use Rattle.headings.proofs.DomainLaws.{domains_good, none_good, total_most}
use Rattle.scopes.proofs.ScopeLaws.{scope_known}
use Rattle.placing.proofs.StretchLaws.{sums-length}
use Rattle.reader.specs.Ties.Fine.{Costed, Fine}
use Rattle.reader.proofs.OneLayout.{product-tuples}
use Rattle.reader.proofs.CostsRead.{costs_costed, capped_sums, all_take, all_drop, all_replicate}

-- ---- rows
-- a row's places are set one after the other
module _ (rows : List ℕ) (f : ℕ) (xs : List ℕ) where
  abbrev one : List ℕ
  one = set rows (f * row_places) (length xs)

  abbrev two : List ℕ
  two = set one (f * row_places + 1) (get_or xs 0 0)

  abbrev three : List ℕ
  three = set two (f * row_places + 2) (get_or xs 1 0)

  row_other : (g j : ℕ) → g ≢ f → j < row_places → in_row (row_set rows f xs) g j ≡ in_row rows g j
  row_other g j q l =
      get_or-set_other three (f * row_places + 3) (g * row_places + j) (get_or xs 2 0) 0 (λ e. omega arith)
      ∙ get_or-set_other two (f * row_places + 2) (g * row_places + j) (get_or xs 1 0) 0 (λ e. omega arith)
      ∙ get_or-set_other one (f * row_places + 1) (g * row_places + j) (get_or xs 0 0) 0 (λ e. omega arith)
      ∙ get_or-set_other rows (f * row_places) (g * row_places + j) (length xs) 0 (λ e. omega arith)

  module _ (long : length rows ≡ functions_most * row_places) (few : f < functions_most) where
    one_long : length one ≡ functions_most * row_places
    one_long = length-set rows (f * row_places) (length xs) ∙ long

    two_long : length two ≡ functions_most * row_places
    two_long = length-set one (f * row_places + 1) (get_or xs 0 0) ∙ one_long

    three_long : length three ≡ functions_most * row_places
    three_long = length-set two (f * row_places + 2) (get_or xs 1 0) ∙ two_long

    row_arity : in_row (row_set rows f xs) f 0 ≡ length xs
    row_arity =
        get_or-set_other three (f * row_places + 3) (f * row_places + 0) (get_or xs 2 0) 0 (λ e. omega arith)
        ∙ get_or-set_other two (f * row_places + 2) (f * row_places + 0) (get_or xs 1 0) 0 (λ e. omega arith)
        ∙ get_or-set_other one (f * row_places + 1) (f * row_places + 0) (get_or xs 0 0) 0 (λ e. omega arith)
        ∙ (let z : f * row_places + 0 ≡ f * row_places = omega arith in rw z (get_or-set_same rows (f * row_places) (length xs) 0 (omega arith)))

    row_first : in_row (row_set rows f xs) f 1 ≡ get_or xs 0 0
    row_first =
        get_or-set_other three (f * row_places + 3) (f * row_places + 1) (get_or xs 2 0) 0 (λ e. omega arith)
        ∙ get_or-set_other two (f * row_places + 2) (f * row_places + 1) (get_or xs 1 0) 0 (λ e. omega arith)
        ∙ get_or-set_same one (f * row_places + 1) (get_or xs 0 0) 0 (omega (arith, one_long))

    row_second : in_row (row_set rows f xs) f 2 ≡ get_or xs 1 0
    row_second =
        get_or-set_other three (f * row_places + 3) (f * row_places + 2) (get_or xs 2 0) 0 (λ e. omega arith)
        ∙ get_or-set_same two (f * row_places + 2) (get_or xs 1 0) 0 (omega (arith, two_long))

    row_third : in_row (row_set rows f xs) f 3 ≡ get_or xs 2 0
    row_third = get_or-set_same three (f * row_places + 3) (get_or xs 2 0) 0 (omega (arith, three_long))

    row_long : length (row_set rows f xs) ≡ functions_most * row_places
    row_long = length-set three (f * row_places + 3) (get_or xs 2 0) ∙ three_long

scope-same : (row like : ℕ → ℕ) → row 0 ≡ like 0 → row 1 ≡ like 1 → row 2 ≡ like 2 → row 3 ≡ like 3 → scope_in row ≡ scope_in like
scope-same row like a b c d = rw (a, b, c, d)

scope_is : (row : ℕ → ℕ) (xs : List ℕ) → row 0 ≡ length xs → row 1 ≡ get_or xs 0 0 → row 2 ≡ get_or xs 1 0 → row 3 ≡ get_or xs 2 0 → 2 ≤ length xs → length xs ≤ arity_most → scope_in row ≡ xs
scope_is row xs a b c d h l = rw (a, b, c, d) (go xs h l)
  where
    go : (xs : List ℕ) → 2 ≤ length xs → length xs ≤ arity_most → take (length xs) (get_or xs 0 0 ∷ get_or xs 1 0 ∷ get_or xs 2 0 ∷ []) ≡ xs
    go [] h l = absurd (omega arith)
    go (x ∷ []) h l = absurd (omega arith)
    go (x ∷ y ∷ []) h l = refl
    go (x ∷ y ∷ z ∷ []) h l = refl
    go (x ∷ y ∷ z ∷ w ∷ ws) h l = absurd (omega arith)

pub scope_here : (rows : List ℕ) (f : ℕ) (xs : List ℕ) → length rows ≡ functions_most * row_places → f < functions_most → 2 ≤ length xs → length xs ≤ arity_most → scope_in (in_row (row_set rows f xs) f) ≡ xs
scope_here rows f xs long few h l =
    scope_is (in_row (row_set rows f xs) f) xs (row_arity rows f xs long few) (row_first rows f xs long few) (row_second rows f xs long few) (row_third rows f xs long few) h l

scope_other : (rows : List ℕ) (f : ℕ) (xs : List ℕ) (g : ℕ) → g ≢ f → scope_in (in_row (row_set rows f xs) g) ≡ scope_in (in_row rows g)
scope_other rows f xs g q =
    scope-same (in_row (row_set rows f xs) g) (in_row rows g) (row_other rows f xs g 0 q (omega arith)) (row_other rows f xs g 1 q (omega arith)) (row_other rows f xs g 2 q (omega arith)) (row_other rows f xs g 3 q (omega arith))

-- ---- stretches, where a function is added
module _ (net : Network) (xs : List ℕ) (at : ℕ) where
  pub part_same : (r : ℕ) → r < net.vars + net.functions → (stands (with_function net xs at)).scope r ≡ (stands net).scope r
  part_same r l = go (ltb r net.vars) (lt→ltb r net.vars)
    where
      go : (b : Bool) → (r < net.vars → T b) → cond b (r ∷ []) (scope_in (in_row (row_set net.scopes net.functions xs) (r - net.vars))) ≡ cond b (r ∷ []) (scope_in (in_row net.scopes (r - net.vars)))
      go true h = refl
      go false h = elim (dec_lt r net.vars) [
        | yes q ↦ absurd (h q)
        | no q ↦ scope_other net.scopes net.functions xs (r - net.vars) (λ e. omega arith)
      ]

  pub start-same : (s : ℕ) → s ≤ net.vars + net.functions → start (stands (with_function net xs at)) s ≡ start (stands net) s
  start-same s h =
      sum_to-same s (λ r. tuples (stands net).size ((stands net).scope r)) (λ r. tuples (stands net).size ((stands (with_function net xs at)).scope r))
      (λ r l. ap (tuples (stands net).size) (part_same r (omega arith)))

-- where the unary stretches begin, and where they end
pub unary_start_lem : (net : Network) (x : ℕ) → x ≤ net.vars → start (stands net) x ≡ unary_start net.sizes x
unary_start_lem net x h =
    sum_to-same x (λ v. get_or net.sizes v 0) (λ r. tuples (stands net).size ((stands net).scope r))
    (λ v l. rw (scope_unary net.vars net.scopes v (omega arith)) (mul-one (get_or net.sizes v 0)))

unary_entries_lem : (net : Network) → start (stands net) net.vars ≡ unary_start net.sizes net.vars
unary_entries_lem net = unary_start_lem net net.vars (omega arith)

unary_few : (left : ℕ) (d : Draft) → Fine left d → unary_start d.net.sizes d.net.vars ≤ length d.table
unary_few left d h =
    omega (arith, unary_entries_lem d.net, h.whole, sum_to_mono (λ r. tuples (stands d.net).size ((stands d.net).scope r)) d.net.vars (d.net.vars + d.net.functions) (omega arith))

-- arity 0
fine_none : (left : ℕ) (d : Draft) (cs : List ℕ) → Fine (suc left) d → Fine left (put d [] cs)
fine_none left d cs h = record {
  top_some = h.top_some;
  top_most = h.top_most;
  constant = omega arith;
  vars_few = h.vars_few;
  functions_few = omega (arith, h.functions_few);
  some = h.some;
  most = h.most;
  rows_long = h.rows_long;
  starts_long = h.starts_long;
  arities = h.arities;
  known = h.known;
  distinct = h.distinct;
  placed_at = h.placed_at;
  few = h.few;
  whole = h.whole;
  capped = h.capped;
}

-- arity 1
added_length : (top start many : ℕ) (cs table : List ℕ) → start + many ≤ length table → length (added_at top start many cs table) ≡ length table
added_length top start many cs table h =
    omega (
      arith,
      length-append (take start table) (sums top (take many (drop start table)) cs ++ drop (start + many) table),
      length-append (sums top (take many (drop start table)) cs) (drop (start + many) table),
      sums-length top (take many (drop start table)) cs,
      length-take start table,
      length-take many (drop start table),
      length-drop start table,
      length-drop (start + many) table,
    )

fine_one : (left : ℕ) (d : Draft) (x : ℕ) (cs : List ℕ) → x < d.net.vars → Fine (suc left) d → Fine left (put d (x ∷ []) cs)
fine_one left d x cs l h =
    let s = unary_start d.net.sizes x in
    let m = get_or d.net.sizes x 0 in
    let b : s + m ≤ length d.table = omega (arith, unary_few (suc left) d h, sum_to_mono (λ v. get_or d.net.sizes v 0) (suc x) d.net.vars l) in
    let e = added_length d.net.top s m cs d.table b in
    let P : ℕ → Type 0 = λ c. c ≤ d.net.top in
    record {
      top_some = h.top_some;
      top_most = h.top_most;
      constant = h.constant;
      vars_few = h.vars_few;
      functions_few = omega (arith, h.functions_few);
      some = h.some;
      most = h.most;
      rows_long = h.rows_long;
      starts_long = h.starts_long;
      arities = h.arities;
      known = h.known;
      distinct = h.distinct;
      placed_at = h.placed_at;
      few = omega (arith, e, h.few);
      whole = e ∙ h.whole;
      capped = All-append P (take s d.table) _ (all_take P s d.table h.capped)
          (All-append P (sums d.net.top (take m (drop s d.table)) cs) _ (capped_sums d.net.top (take m (drop s d.table)) cs) (all_drop P (s + m) d.table h.capped));
    }

-- arity 2 and 3: what holds of each row that was there holds, and of the new one
each_row : (P : List ℕ → Type 0) (rows : List ℕ) (f : ℕ) (xs : List ℕ) → length rows ≡ functions_most * row_places → f < functions_most → 2 ≤ length xs → length xs ≤ arity_most
    → ((g : ℕ) → g < f → P (scope_in (in_row rows g))) → P xs → (g : ℕ) → g < f + 1 → P (scope_in (in_row (row_set rows f xs) g))
each_row P rows f xs long few two three h p g l = elim (ℕ_discrete g f) [
  | yes q ↦ rw (q, scope_here rows f xs long few two three) p
  | no q ↦ rw (scope_other rows f xs g q) (h g (omega arith))
]

fine_more : (left : ℕ) (d : Draft) (xs cs : List ℕ) → 2 ≤ length xs → length xs ≤ arity_most → All (λ v. v < d.net.vars) xs → T (different xs)
    → length d.table + product (scope_sizes d.net.sizes xs) ≤ entries_most → Costed d.net.top (product (scope_sizes d.net.sizes xs)) cs
    → Fine (suc left) d → Fine left (record { net = with_function d.net xs (length d.table); table = d.table ++ cs })
fine_more left d xs cs two three all distinct room c h =
    let net = d.net in
    let f = net.functions in
    let at = length d.table in
    let few : f < functions_most = omega (arith, h.functions_few) in
    let n : net.vars + (f + 1) ≡ suc (net.vars + f) = omega arith in
    let scope : (stands (with_function net xs at)).scope (net.vars + f) ≡ xs =
    scope-function net.vars (row_set net.scopes f xs) f ∙ scope_here net.scopes f xs h.rows_long few two three in
    let long : length (d.table ++ cs) ≡ at + product (scope_sizes net.sizes xs) = omega (arith, length-append d.table cs, c.many_are) in
    let before = start-same net xs at (net.vars + f) (omega arith) in
    let after : tuples (stands net).size ((stands (with_function net xs at)).scope (net.vars + f)) ≡ product (scope_sizes net.sizes xs) = rw scope (sym (product-tuples net.sizes xs)) in
    record {
      top_some = h.top_some;
      top_most = h.top_most;
      constant = h.constant;
      vars_few = h.vars_few;
      functions_few = omega (arith, h.functions_few);
      some = h.some;
      most = h.most;
      rows_long = row_long net.scopes f xs h.rows_long few;
      starts_long = length-set net.starts f at ∙ h.starts_long;
      arities = λ g l. elim (ℕ_discrete g f) [
        | yes q ↦ rw (q, row_arity net.scopes f xs h.rows_long few) (two, three)
        | no q ↦ rw (row_other net.scopes f xs g 0 q (omega arith)) (h.arities g (omega arith))
      ];
      known = each_row (All (λ v. v < net.vars)) net.scopes f xs h.rows_long few two three h.known all;
      distinct = each_row (λ vs. T (different vs)) net.scopes f xs h.rows_long few two three h.distinct distinct;
      placed_at = λ g l. elim (ℕ_discrete g f) [
        | yes q ↦ rw (q, get_or-set_same net.starts f at 0 (omega (arith, h.starts_long))) (h.whole ∙ sym before)
        | no q ↦ rw (get_or-set_other net.starts f g at 0 q) (h.placed_at g (omega arith) ∙ sym (start-same net xs at (net.vars + g) (omega arith)))
      ];
      few = omega (arith, long);
      whole = rw n (omega (arith, long, h.whole, before, after));
      capped = All-append (λ v. v ≤ net.top) d.table cs h.capped c.capped;
    }

-- ---- one function, and all of them
fine_put : (left : ℕ) (d : Draft) (xs cs : List ℕ) → length xs ≤ arity_most → All (λ v. v < d.net.vars) xs → T (different xs)
    → (2 ≤ length xs → length d.table + product (scope_sizes d.net.sizes xs) ≤ entries_most) → Costed d.net.top (product (scope_sizes d.net.sizes xs)) cs
    → Fine (suc left) d → Fine left (put d xs cs)
fine_put left d [] cs three all distinct room c h = fine_none left d cs h
fine_put left d (x ∷ []) cs three all distinct room c h = fine_one left d x cs all.0 h
fine_put left d (x ∷ y ∷ zs) cs three all distinct room c h = fine_more left d (x ∷ y ∷ zs) cs (omega arith) three all distinct (room (omega arith)) c h

pub function_fine : (left : ℕ) (d : Draft) (text : Text) (at : ℕ) (out : Draft) (next : ℕ) → got out next ≡ function d text at → Fine (suc left) d → Fine left out
unfolding function
function_fine left d text at out next e h =
    let arity = and_then_lem _ _ _ _ e in
    let xs = and_then_lem _ _ _ _ arity.3 in
    let k = scope_known d.net.vars d.net.sizes (length d.table) arity.0.value [] text arity.1 xs.0 xs.1 (sym xs.2) in
    let few = (in_range 0 arity_most text at arity.0 arity.1 (sym arity.2)).1 in
    go xs.0 (costs d.net.top (scope_sizes d.net.sizes xs.0) text xs.1) (omega (arith, k.count)) (k.known tt) (k.distinct tt)
    (λ l. k.room (omega (arith, k.count)) l) (λ cs n f. costs_costed d.net.top (scope_sizes d.net.sizes xs.0) text xs.1 cs n f) xs.3
  where
    go : (xs : List ℕ) (g : Got (List ℕ)) → length xs ≤ arity_most → All (λ v. v < d.net.vars) xs → T (different xs)
        → (2 ≤ length xs → length d.table + product (scope_sizes d.net.sizes xs) ≤ entries_most)
        → ((cs : List ℕ) (n : ℕ) → got cs n ≡ g → Costed d.net.top (product (scope_sizes d.net.sizes xs)) cs) → got out next ≡ placed d xs g → Fine left out
    go xs (got cs n) three all distinct room c e = let q : out ≡ put d xs cs = same-value _ _ _ _ e in rw q (fine_put left d xs cs three all distinct room (c cs n refl) h)
    go xs (refused a) three all distinct room c e = absurd (let z : ◌≡◌ {A = ℕ} 0 1 = cc in omega arith)

functions_fine : (left : ℕ) (d : Draft) (text : Text) (at : ℕ) (out : Draft) (next : ℕ) → got out next ≡ functions left d text at → Fine left d → Fine 0 out
unfolding functions
functions_fine zero d text at out next e h = let q : out ≡ d = same-value _ _ _ _ e in rw q h
functions_fine (suc left) d text at out next e h =
    let one = and_then_lem _ _ _ _ e in
    functions_fine left one.0 text one.1 out next one.3 (function_fine left d text at one.0 one.1 (sym one.2) h)

pub started_fine : (head : Head) (sized : Sized) → InRange head → Good head.vars sized → Fine head.functions (started head sized)
started_fine head sized r g =
    let net = (started head sized).net in
    let z : head.vars + 0 ≡ head.vars = omega arith in
    let n = length-replicate {A = ℕ} sized.entries 0 in
    record {
      top_some = r.top_some;
      top_most = r.top_most;
      constant = omega arith;
      vars_few = r.vars_few;
      functions_few = omega (arith, r.functions_few);
      some = g.some;
      most = g.most;
      rows_long = length-replicate {A = ℕ} (functions_most * row_places) 0;
      starts_long = length-replicate {A = ℕ} functions_most 0;
      arities = λ f l. absurd (omega arith);
      known = λ f l. absurd (omega arith);
      distinct = λ f l. absurd (omega arith);
      placed_at = λ f l. absurd (omega arith);
      few = omega (arith, n, g.summed, total_most head.vars (λ w. get_or sized.sizes w 0) g.most, r.vars_few);
      whole = n ∙ g.summed ∙ sym (unary_entries_lem net) ∙ rw z;
      capped = all_replicate (λ c. c ≤ head.top) sized.entries 0 (omega arith);
    }

-- ---- the whole text
pub network_fine : (text : Text) (at : ℕ) (out : Draft) (next : ℕ) → got out next ≡ network text at → Fine 0 out
unfolding network body rest
network_fine text at out next e =
    let head = and_then_lem _ _ _ _ e in
    let sized = and_then_lem _ _ _ _ head.3 in
    let all = and_then_lem _ _ _ _ sized.3 in
    let end = and_then_lem _ _ _ _ all.3 in
    let r = header-range text at head.0 head.1 (sym head.2) in
    let z : 0 + head.0.vars ≡ head.0.vars = omega arith in
    let g = domains_good head.0.greatest head.0.vars 0 0 0 (replicate vars_most 0) text head.1 sized.0 sized.1 (sym sized.2) (omega (arith, r.vars_few)) none_good in
    let q : out ≡ all.0 = same-value _ _ _ _ end.3 in
    rw q (functions_fine head.0.functions (started head.0 sized.0) text sized.1 all.0 all.1 (sym all.2) (started_fine head.0 sized.0 r (rw z at g)))

pub fine_network : (left : ℕ) (d : Draft) (rest : List ℕ) → Fine left d → IsNetwork d.net (d.table ++ rest)
fine_network left d rest h = record {
  top_some = h.top_some;
  ready = record {
    top_most = h.top_most;
    constant_most = h.constant;
    scoped = record {
      vars_few = h.vars_few;
      functions_few = omega (arith, h.functions_few);
      sized = h.some;
      small = λ v l. h.most v;
      arity_least = λ f l. (h.arities f l).0;
      arity_at_most = λ f l. (h.arities f l).1;
      known = h.known;
    };
    placed = h.placed_at;
    entries_is = refl;
    few = omega (arith, h.whole, h.few);
  };
  distinct = λ f l. (by_different (scope_in (in_row d.net.scopes f))).says (h.distinct f l);
  costs = λ j l m. let k : j < length d.table = omega (arith, h.whole) in rw (get_or-append d.table rest 0 j k) (All-at (λ c. c ≤ d.net.top) d.table h.capped j k);
}

-- After a successful read the price of a plan is the capped sum of what the text says of it, function by function. Assumes nothing.
use Rattle.std.proofs.Common.{ℕ, zero, suc, ◌+◌, ◌-◌, ◌≤◌, ◌<◌, min, ◌≡◌, refl, sym, ap, ◌∙◌, subst, ◌≢◌, ◌⊎◌, inl, inr, ⊎_elim, List, [], ◌∷◌, ◌++◌, map, append_assoc, append-nil, arith, length, get_or, take, drop, set, replicate, length-set, length-take, length-drop, get_or-set_same, get_or-set_other, get_or-append-add, get_or-take, get_or-drop}
use native.Mathlib.Decide.{dec_lt}
use lib.ListN.{length-map, length-replicate, get_or-append}
use Rattle.costs.specs.Limits.{vars_most, size_most, arity_most, functions_most}
use Rattle.costs.specs.Cost.{plus}
use Rattle.costs.specs.Range.{sum_to}
use Rattle.costs.specs.Net.{Net, Sound, IsPlan, All, tuples, entry, start, entries, touched, costs_of, price}
use Rattle.costs.specs.Networks.{stands}
use Rattle.costs.proofs.RangeLaws.{sum_to-same, sum_to_point, sum_to_mono}
use Rattle.costs.proofs.NetLaws.{All-map, entry_lt, touched_below, tuples_unary, touched_unary, price_capped, price_below}
use Rattle.judging.proofs.JudgeLaws.{network_sound}
use Rattle.costs.proofs.RowLaws.{scope-function}
use Rattle.placing.specs.Drafts.{Draft, sums, unary_start, added_at, with_function, row_set, put}
use Rattle.placing.proofs.StretchLaws.{sums-length}
use Rattle.tokens.specs.Tokens.{Text, text_of}
use Rattle.tokens.specs.Steps.{Got, got, refused, and_then}
use Rattle.tokens.specs.declared.numbers.Seen.{Seen}
use Rattle.tokens.specs.Numbers.{any_number}
use Rattle.tokens.proofs.StepLaws.{and_then_lem, demanded, same-value, same_next}
use Rattle.tokens.proofs.NumberLaws.{in_range, number_there}
use Rattle.scopes.specs.Scopes.{scope_sizes, variable, scope}
use Rattle.scopes.proofs.ScopeLaws.{scope_known}
use Rattle.function_costs.specs.FunctionCosts.{costs}
use Rattle.functions.specs.Functions.{placed, function, functions}
use Rattle.reader.specs.Said.{SaidFunction, numbers, said_costs, said_function, said_functions, said, cost_said, SaidBy}
use Rattle.reader.specs.Reading.{started, rest, body, network}
use Rattle.headings.specs.declared.headers.Head.{Head}
use Rattle.headings.specs.Headers.{header}
use Rattle.headings.specs.Domains.{Sized, size, domains}
use Rattle.headings.proofs.HeaderLaws.{header-range}
use Rattle.headings.proofs.DomainLaws.{domains_good, none_good}
use Rattle.tables.proofs.TableLaws.{zero_at}
use Rattle.reader.specs.Ties.Fine.{Fine}
use Rattle.reader.proofs.OneLayout.{Below, entry-touched}
use Rattle.reader.proofs.CostsSaid.{Told, costs-told}
use Rattle.reader.proofs.NetworkRead.{unary_start_lem, part_same, start-same, scope_here, fine_network, function_fine, started_fine, network_fine}

-- the price of a plan by a draft
abbrev draft_price : Draft → (ℕ → ℕ) → ℕ
draft_price d p = price (stands d.net) (costs_of d.net.constant d.table) p

fine_sound : (left : ℕ) (d : Draft) → Fine left d → Sound (stands d.net)
fine_sound left d h = network_sound d.net (d.table ++ []) (fine_network left d [] h)

-- ---- a table with costs added to a stretch
sums_at : (top : ℕ) (xs cs : List ℕ) (j : ℕ) → j < length xs → get_or (sums top xs cs) j 0 ≡ plus top (get_or xs j 0) (get_or cs j 0)
unfolding sums
sums_at top [] cs j l = absurd (omega arith)
sums_at top (x ∷ xs) cs zero l = refl
sums_at top (x ∷ xs) cs (suc j) l = sums_at top xs (drop 1 cs) j (omega arith) ∙ ap (λ (c : ℕ). plus top (get_or xs j 0) c) (get_or-drop 1 cs j 0 ∙ ap (λ (k : ℕ). get_or cs k 0) one)
  where
    one : 1 + j ≡ suc j
    one = omega arith

module _ (top start many : ℕ) (cs table : List ℕ) (inside : start + many ≤ length table) where
  abbrev front : List ℕ
  front = take start table

  abbrev stretch : List ℕ
  stretch = sums top (take many (drop start table)) cs

  front_long : length front ≡ start
  front_long = omega (arith, length-take start table)

  stretch_long : length stretch ≡ many
  stretch_long = sums-length top (take many (drop start table)) cs ∙ omega (arith, length-take many (drop start table), length-drop start table)

  added_before : (j : ℕ) → j < start → get_or (added_at top start many cs table) j 0 ≡ get_or table j 0
  added_before j l = get_or-append front (stretch ++ drop (start + many) table) 0 j (omega (arith, front_long)) ∙ get_or-take start table j 0 l

  added_within : (e : ℕ) → e < many → get_or (added_at top start many cs table) (start + e) 0 ≡ plus top (get_or table (start + e) 0) (get_or cs e 0)
  added_within e l =
      let a = get_or-append-add front (stretch ++ drop (start + many) table) e 0 in
      (rw front_long at a) ∙ get_or-append stretch (drop (start + many) table) 0 e (omega (arith, stretch_long))
      ∙ sums_at top (take many (drop start table)) cs e (omega (arith, length-take many (drop start table), length-drop start table))
      ∙ ap (λ (x : ℕ). plus top x (get_or cs e 0)) (get_or-take many (drop start table) e 0 l ∙ get_or-drop start table e 0)

  added_behind : (j : ℕ) → start + many ≤ j → get_or (added_at top start many cs table) j 0 ≡ get_or table j 0
  added_behind j l =
      let i : ℕ = j - (start + many) in
      let e : start + (many + i) ≡ j = omega arith in
      let f : start + many + i ≡ j = omega arith in
      let a = get_or-append-add front (stretch ++ drop (start + many) table) (many + i) 0 in
      let b = get_or-append-add stretch (drop (start + many) table) i 0 in
      let c : get_or (added_at top start many cs table) (start + (many + i)) 0 ≡ get_or table (start + many + i) 0 = (rw front_long at a) ∙ (rw stretch_long at b) ∙ get_or-drop (start + many) table i 0 in
      rw (e, f) at c

-- ---- what a function put in its place adds to the price of a plan
module _ (left : ℕ) (d : Draft) (fine : Fine left d) (p : ℕ → ℕ) (plan : IsPlan (stands d.net) p) where
  abbrev net : Net
  net = stands d.net

  good : Sound net
  good = fine_sound left d fine

  -- "Costs of arity 0 are ⊕-summed into one constant"
  constant_price : (cs : List ℕ) → draft_price (put d [] cs) p ≡ min net.top (draft_price d p + get_or cs 0 0)
  constant_price cs =
      rw (price_capped net (costs_of (plus net.top d.net.constant (get_or cs 0 0)) d.table) p, price_capped net (costs_of d.net.constant d.table) p) (omega arith)

  -- what a plan touches of another part lies apart from a part's stretch
  touched-apart : (s x : ℕ) → s < net.parts → x < net.parts → s ≢ x → (touched net p s < start net x) ⊎ (start net x + tuples net.size (net.scope x) ≤ touched net p s)
  touched-apart s x ls lx q = elim (dec_lt s x) [
    | yes l ↦ inl (omega (arith, entry_lt net.size p (net.scope s) (All-map plan.range (net.scope s) (good.known s ls)), sum_to_mono (λ r. tuples net.size (net.scope r)) (suc s) x l))
    | no l ↦ inr (omega (arith, sum_to_mono (λ r. tuples net.size (net.scope r)) (suc x) s (omega arith)))
  ]

  -- "costs of arity 1 into one cost per variable and value"
  unary_price : (x : ℕ) (cs : List ℕ) → x < net.vars → draft_price (put d (x ∷ []) cs) p ≡ min net.top (draft_price d p + get_or cs (p x) 0)
  unary_price x cs l =
      rw (price_capped net (costs_of d.net.constant after) p, price_capped net (costs_of d.net.constant d.table) p) (omega (arith, sums_are, here))
    where
      lp : x < net.parts
      lp = omega arith

      begins : start net x ≡ unary_start d.net.sizes x
      begins = unary_start_lem d.net x (omega arith)

      inside : unary_start d.net.sizes x + get_or d.net.sizes x 0 ≤ length d.table
      inside = omega (arith, fine.whole, begins, tuples_unary net good x l, sum_to_mono (λ r. tuples net.size (net.scope r)) (suc x) net.parts lp)

      after : List ℕ
      after = added_at net.top (unary_start d.net.sizes x) (get_or d.net.sizes x 0) cs d.table

      here : get_or after (touched net p x) 0 ≡ plus net.top (get_or d.table (touched net p x) 0) (get_or cs (p x) 0)
      here = rw (touched_unary net good p x l, begins) (added_within net.top (unary_start d.net.sizes x) (get_or d.net.sizes x 0) cs d.table inside (p x) (plan.range x l))

      elsewhere : (s : ℕ) → s < net.parts → s ≢ x → get_or after (touched net p s) 0 ≡ get_or d.table (touched net p s) 0
      elsewhere s ls q = ⊎_elim
          (λ b. added_before net.top (unary_start d.net.sizes x) (get_or d.net.sizes x 0) cs d.table inside (touched net p s) (omega (arith, b, begins)))
          (λ b. added_behind net.top (unary_start d.net.sizes x) (get_or d.net.sizes x 0) cs d.table inside (touched net p s) (omega (arith, b, begins, tuples_unary net good x l)))
          (touched-apart s x ls lp q)

      sums_are : (y : ℕ) × (sum_to net.parts (λ s. get_or d.table (touched net p s) 0) ≡ y + get_or d.table (touched net p x) 0) × (sum_to net.parts (λ s. get_or after (touched net p s) 0) ≡ y + get_or after (touched net p x) 0)
      sums_are = sum_to_point net.parts x (λ s. get_or d.table (touched net p s) 0) (λ s. get_or after (touched net p s) 0) lp elsewhere

  -- "Functions of arity 2 and 3 are numbered from 0 among themselves in text order"
  function-price : (xs cs : List ℕ) → 2 ≤ length xs → length xs ≤ arity_most → d.net.functions < functions_most
      → draft_price (record { net = with_function d.net xs (length d.table); table = d.table ++ cs }) p ≡ min net.top (draft_price d p + get_or cs (entry net.size p xs) 0)
  function-price xs cs two three few =
      rw (price_capped more (costs_of d.net.constant (d.table ++ cs)) p, price_capped net (costs_of d.net.constant d.table) p, count) (omega (arith, before, last))
    where
      more : Net
      more = stands (with_function d.net xs (length d.table))

      count : more.parts ≡ suc net.parts
      count = omega arith

      at_same : (s : ℕ) → s < net.parts → touched more p s ≡ touched net p s
      at_same s l = rw (start-same d.net xs (length d.table) s (omega arith), part_same d.net xs (length d.table) s l)

      before : sum_to net.parts (λ s. get_or (d.table ++ cs) (touched more p s) 0) ≡ sum_to net.parts (λ s. get_or d.table (touched net p s) 0)
      before = sum_to-same net.parts (λ s. get_or d.table (touched net p s) 0) (λ s. get_or (d.table ++ cs) (touched more p s) 0)
          (λ s l. rw (at_same s l) (get_or-append d.table cs 0 (touched net p s) (omega (arith, fine.whole, touched_below net good p plan s l))))

      scope : more.scope net.parts ≡ xs
      scope = scope-function d.net.vars (row_set d.net.scopes d.net.functions xs) d.net.functions ∙ scope_here d.net.scopes d.net.functions xs fine.rows_long few two three

      last : get_or (d.table ++ cs) (touched more p net.parts) 0 ≡ get_or cs (entry net.size p xs) 0
      last = rw (start-same d.net xs (length d.table) net.parts (omega arith), ← fine.whole, scope) (get_or-append-add d.table cs (entry net.size p xs) 0)

  put-price : (xs cs : List ℕ) → length xs ≤ arity_most → All (λ v. v < net.vars) xs → d.net.functions < functions_most
      → draft_price (put d xs cs) p ≡ min net.top (draft_price d p + get_or cs (entry net.size p xs) 0)
  put-price [] cs three known few = constant_price cs
  put-price (x ∷ []) cs three known few = let e : entry net.size p (x ∷ []) ≡ p x = omega arith in rw e (unary_price x cs known.0)
  put-price (x ∷ y ∷ zs) cs three known few = function-price (x ∷ y ∷ zs) cs (omega arith) three few

-- ---- what the text says of one function, beside what was read of it
-- k and the sizes of a draft stay
record Like (d out : Draft) : Type 0 where
  top : out.net.top ≡ d.net.top
  vars : out.net.vars ≡ d.net.vars
  sizes : out.net.sizes ≡ d.net.sizes

put_like : (d : Draft) (xs cs : List ℕ) → Like d (put d xs cs)
put_like d [] cs = record { top = refl; vars = refl; sizes = refl }
put_like d (x ∷ []) cs = record { top = refl; vars = refl; sizes = refl }
put_like d (x ∷ y ∷ zs) cs = record { top = refl; vars = refl; sizes = refl }

numbers_more : (left : ℕ) (text : Text) (at : ℕ) (x : Seen) (n : ℕ) (xs : List ℕ) (next : ℕ) → any_number text at ≡ got x n → numbers left text n ≡ got xs next → numbers (suc left) text at ≡ got (x.value ∷ xs) next
unfolding numbers and_then
numbers_more left text at x n xs next a b = rw (a, b)

variable_there : (vars : ℕ) (sizes : List ℕ) (entries left : ℕ) (xs : List ℕ) (text : Text) (at : ℕ) (x : Seen) (next : ℕ) → got x next ≡ variable vars sizes entries left xs text at → any_number text at ≡ got x next
unfolding variable
variable_there vars sizes entries left xs text at x next e =
    let s = and_then_lem _ _ _ _ e in
    let p = demanded _ _ _ _ _ _ _ s.3 in
    let q = demanded _ _ _ _ _ _ _ p.1 in
    s.2 ∙ sym q.1

scope-said : (vars : ℕ) (sizes : List ℕ) (entries left : ℕ) (xs : List ℕ) (text : Text) (at : ℕ) (ys : List ℕ) (next : ℕ) → got ys next ≡ scope vars sizes entries left xs text at
    → (zs : List ℕ) × (numbers left text at ≡ got zs next) × (ys ≡ xs ++ zs)
unfolding scope numbers
scope-said vars sizes entries zero xs text at ys next e = ([], ap (λ (n : ℕ). got [] n) (sym (same_next _ _ _ _ e)), same-value _ _ _ _ e ∙ sym (append-nil xs))
scope-said vars sizes entries (suc left) xs text at ys next e =
    let s = and_then_lem _ _ _ _ e in
    let there = variable_there vars sizes entries left xs text at s.0 s.1 (sym s.2) in
    let r = scope-said vars sizes entries left (xs ++ s.0.value ∷ []) text s.1 ys next s.3 in
    (s.0.value ∷ r.0, numbers_more left text at s.0 s.1 r.0 next there r.1, r.2 ∙ append_assoc xs (s.0.value ∷ []) r.0)

said-function : (top : ℕ) (text : Text) (at : ℕ) (arity : Seen) (n : ℕ) (xs : List ℕ) (m : ℕ) (cost : List ℕ → ℕ) (next : ℕ) → any_number text at ≡ got arity n → numbers arity.value text n ≡ got xs m
    → said_costs top arity.value text m ≡ got cost next → said_function top text at ≡ got (record { scope = xs; cost = cost }) next
unfolding said_function and_then
said-function top text at arity n xs m cost next a b c = rw (a, b, c)

-- a plan's values of known variables are below their sizes
plan_below : (vars : ℕ) (sizes : List ℕ) (p : ℕ → ℕ) → ((v : ℕ) → v < vars → p v < get_or sizes v 0) → (xs : List ℕ) → All (λ v. v < vars) xs → Below (scope_sizes sizes xs) (map p xs)
plan_below vars sizes p range [] h = tt
plan_below vars sizes p range (x ∷ xs) h = (range x h.0, plan_below vars sizes p range xs h.1)

sizes_many : (sizes xs : List ℕ) → length (scope_sizes sizes xs) ≡ length xs
sizes_many sizes xs = length-map xs (λ v. get_or sizes v 0)

record FunctionSaid (d : Draft) (text : Text) (at : ℕ) (out : Draft) (next : ℕ) : Type 0 where
  function_is : SaidFunction
  says : said_function d.net.top text at ≡ got function_is next
  like : Like d out
  prices : (p : ℕ → ℕ) → IsPlan (stands d.net) p → draft_price out p ≡ min d.net.top (draft_price d p + function_is.cost (map p function_is.scope))

function-said : (left : ℕ) (d : Draft) (text : Text) (at : ℕ) (out : Draft) (next : ℕ) → got out next ≡ function d text at → Fine (suc left) d → FunctionSaid d text at out next
unfolding function
function-said left d text at out next e fine =
    let arity = and_then_lem _ _ _ _ e in
    let xs = and_then_lem _ _ _ _ arity.3 in
    let known = scope_known d.net.vars d.net.sizes (length d.table) arity.0.value [] text arity.1 xs.0 xs.1 (sym xs.2) in
    let read = scope-said d.net.vars d.net.sizes (length d.table) arity.0.value [] text arity.1 xs.0 xs.1 (sym xs.2) in
    let same : numbers arity.0.value text arity.1 ≡ got xs.0 xs.1 = read.1 ∙ ap (λ (l : List ℕ). got l xs.1) (sym read.2) in
    let there = number_there 0 arity_most text at arity.0 arity.1 (sym arity.2) in
    let few = (in_range 0 arity_most text at arity.0 arity.1 (sym arity.2)).1 in
    let many : arity.0.value ≡ length (scope_sizes d.net.sizes xs.0) = omega (arith, sizes_many d.net.sizes xs.0, known.count) in
    go xs.0 (costs d.net.top (scope_sizes d.net.sizes xs.0) text xs.1) xs.1 arity.0 arity.1 (omega (arith, known.count)) (known.known tt) there same many
    (λ cs n f. costs-told d.net.top fine.top_most (scope_sizes d.net.sizes xs.0) text xs.1 cs n f) xs.3
  where
    go : (xs : List ℕ) (g : Got (List ℕ)) (m : ℕ) (arity : Seen) (n : ℕ) → length xs ≤ arity_most → All (λ v. v < d.net.vars) xs → any_number text at ≡ got arity n → numbers arity.value text n ≡ got xs m
        → arity.value ≡ length (scope_sizes d.net.sizes xs)
        → ((cs : List ℕ) (n : ℕ) → got cs n ≡ g → Told d.net.top (scope_sizes d.net.sizes xs) cs (said_costs d.net.top (length (scope_sizes d.net.sizes xs)) text m) n)
        → got out next ≡ placed d xs g → FunctionSaid d text at out next
    go xs (refused a) m arity n three known there same many told e = absurd (let z : ◌≡◌ {A = ℕ} 0 1 = cc in omega arith)
    go xs (got cs end) m arity n three known there same many told e =
        let q : out ≡ put d xs cs = same-value _ _ _ _ e in
        let z : end ≡ next = sym (same_next _ _ _ _ e) in
        let t = told cs end refl in
        record {
          function_is = record { scope = xs; cost = t.cost };
          says = said-function d.net.top text at arity n xs m t.cost next there same (rw many (t.said ∙ ap (λ (k : ℕ). got t.cost k) z));
          like = subst (λ (x : Draft). Like d x) (sym q) (put_like d xs cs);
          prices = λ p plan.
              let held = t.holds (map p xs) (plan_below d.net.vars d.net.sizes p plan.range xs known) in
              ap (λ (x : Draft). draft_price x p) q ∙ put-price (suc left) d fine p plan xs cs three known (omega (arith, fine.functions_few)) ∙ rw (entry-touched d.net.sizes p xs, held) (omega arith);
        }

-- ---- all functions
record FunctionsSaid (left : ℕ) (d : Draft) (text : Text) (at : ℕ) (out : Draft) (next : ℕ) : Type 0 where
  all : List SaidFunction
  says : said_functions d.net.top left text at ≡ got all next
  like : Like d out
  prices : (p : ℕ → ℕ) → IsPlan (stands d.net) p → draft_price out p ≡ min d.net.top (draft_price d p + cost_said all p)

said_more : (top left : ℕ) (text : Text) (at : ℕ) (f : SaidFunction) (n : ℕ) (fs : List SaidFunction) (next : ℕ) → said_function top text at ≡ got f n → said_functions top left text n ≡ got fs next
    → said_functions top (suc left) text at ≡ got (f ∷ fs) next
unfolding said_functions and_then
said_more top left text at f n fs next a b = rw (a, b)

like_both : (d e f : Draft) → Like d e → Like e f → Like d f
like_both d e f a b = record { top = b.top ∙ a.top; vars = b.vars ∙ a.vars; sizes = b.sizes ∙ a.sizes }

like_back : (d e : Draft) → Like d e → Like e d
like_back d e a = record { top = sym a.top; vars = sym a.vars; sizes = sym a.sizes }

-- a draft's price is capped
draft_capped : (d : Draft) (p : ℕ → ℕ) → draft_price d p ≤ d.net.top
draft_capped d p = omega (arith, price_capped (stands d.net) (costs_of d.net.constant d.table) p)

like_plan : (d e : Draft) (p : ℕ → ℕ) → Like d e → IsPlan (stands d.net) p → IsPlan (stands e.net) p
like_plan d e p like plan = record { range = λ v l. rw like.sizes (plan.range v (rw like.vars at l)) }

functions-said : (left : ℕ) (d : Draft) (text : Text) (at : ℕ) (out : Draft) (next : ℕ) → got out next ≡ functions left d text at → Fine left d → FunctionsSaid left d text at out next
unfolding functions said_functions
functions-said zero d text at out next e fine =
    let q : out ≡ d = same-value _ _ _ _ e in
    record {
      all = [];
      says = ap (λ (n : ℕ). got [] n) (sym (same_next _ _ _ _ e));
      like = rw q (record { top = refl; vars = refl; sizes = refl });
      prices = λ p plan. rw q (omega (arith, draft_capped d p));
    }
functions-said (suc left) d text at out next e fine =
    let one = and_then_lem _ _ _ _ e in
    let f = function-said left d text at one.0 one.1 (sym one.2) fine in
    let r = functions-said left one.0 text one.1 out next one.3 (function_fine left d text at one.0 one.1 (sym one.2) fine) in
    record {
      all = f.function_is ∷ r.all;
      says = said_more d.net.top left text at f.function_is one.1 r.all next f.says (rw f.like.top at r.says);
      like = like_both d one.0 out f.like r.like;
      prices = λ p plan. omega (arith, r.prices p (like_plan d one.0 p f.like plan), f.prices p plan, f.like.top);
    }

-- ---- the sizes
size_there : (greatest left largest total : ℕ) (text : Text) (at : ℕ) (x : Seen) (next : ℕ) → got x next ≡ size greatest left largest total text at → any_number text at ≡ got x next
unfolding size
size_there greatest left largest total text at x next e =
    let s = and_then_lem _ _ _ _ e in
    let p = demanded _ _ _ _ _ _ _ s.3 in
    let q = demanded _ _ _ _ _ _ _ p.1 in
    number_there 1 size_most text at s.0 s.1 (sym s.2) ∙ sym q.1

record SizesSaid (left v : ℕ) (sizes : List ℕ) (text : Text) (at : ℕ) (z : Sized) (next : ℕ) : Type 0 where
  all : List ℕ
  says : numbers left text at ≡ got all next
  many : length all ≡ left
  before : (w : ℕ) → w < v → get_or z.sizes w 0 ≡ get_or sizes w 0
  from : (w : ℕ) → w < left → get_or z.sizes (v + w) 0 ≡ get_or all w 0

domains-said : (greatest left v largest total : ℕ) (sizes : List ℕ) (text : Text) (at : ℕ) (z : Sized) (next : ℕ) → got z next ≡ domains greatest left v largest total sizes text at
    → v + left ≤ length sizes → SizesSaid left v sizes text at z next
unfolding domains numbers
domains-said greatest zero v largest total sizes text at z next e h =
    let q : z ≡ record { entries = total; sizes = sizes } = same-value _ _ _ _ e in
    record { all = []; says = ap (λ (n : ℕ). got [] n) (sym (same_next _ _ _ _ e)); many = refl; before = λ w l. rw q; from = λ w l. absurd (omega arith) }
domains-said greatest (suc left) v largest total sizes text at z next e h =
    let s = and_then_lem _ _ _ _ e in
    let x : ℕ = s.0.value in
    let there = size_there greatest left largest total text at s.0 s.1 (sym s.2) in
    let r = domains-said greatest left (v + 1) _ _ (set sizes v x) text s.1 z next s.3 (omega (arith, length-set sizes v x)) in
    record {
      all = x ∷ r.all;
      says = numbers_more left text at s.0 s.1 r.all next there r.says;
      many = omega (arith, r.many);
      before = λ w l. r.before w (omega arith) ∙ get_or-set_other sizes v w x 0 (λ q. omega arith);
      from = λ w l. at_place x r.all w l (r.before v (omega arith) ∙ get_or-set_same sizes v x 0 (omega arith)) r.from;
    }
  where
    at_place : (x : ℕ) (all : List ℕ) (w : ℕ) → w < suc left → get_or z.sizes v 0 ≡ x → ((w : ℕ) → w < left → get_or z.sizes (v + 1 + w) 0 ≡ get_or all w 0) → get_or z.sizes (v + w) 0 ≡ get_or (x ∷ all) w 0
    at_place x all zero l here f = let e : v + 0 ≡ v = omega arith in rw e here
    at_place x all (suc w) l here f = let e : v + suc w ≡ v + 1 + w = omega arith in rw e (f w (omega arith))

-- ---- the whole text
said-whole : (text : Text) (at : ℕ) (head : Head) (n : ℕ) (sizes : List ℕ) (m : ℕ) (fs : List SaidFunction) (next : ℕ) → header text at ≡ got head n → numbers head.vars text n ≡ got sizes m
    → said_functions head.top head.functions text m ≡ got fs next → said text at ≡ got (record { top = head.top; sizes = sizes; functions = fs }) next
unfolding said and_then
said-whole text at head n sizes m fs next a b c = rw (a, b, c)

-- before the first function every plan costs nothing
sum_none : (n : ℕ) (g : ℕ → ℕ) → ((s : ℕ) → g s ≡ 0) → sum_to n g ≡ 0
sum_none zero g h = refl
sum_none (suc n) g h = omega (arith, sum_none n g h, h n)

started-price : (head : Head) (sized : Sized) (p : ℕ → ℕ) → draft_price (started head sized) p ≡ 0
started-price head sized p =
    let net = stands (started head sized).net in
    let table : List ℕ = replicate sized.entries 0 in
    omega (arith, price_capped net (costs_of 0 table) p, sum_none net.parts (λ s. get_or table (touched net p s) 0) (λ s. zero_at sized.entries (touched net p s)))

-- costs behind a table are touched by no plan
price_front : (d : Draft) (rest : List ℕ) → Fine 0 d → (p : ℕ → ℕ) → IsPlan (stands d.net) p → price (stands d.net) (costs_of d.net.constant (d.table ++ rest)) p ≡ draft_price d p
price_front d rest fine p plan =
    price_below (stands d.net) (fine_sound 0 d fine) (costs_of d.net.constant (d.table ++ rest)) (costs_of d.net.constant d.table) refl
    (λ j l. get_or-append d.table rest 0 j (omega (arith, fine.whole))) p plan

pub network-said : (text : List ℕ) (d : Draft) (next : ℕ) → network (text_of text) 0 ≡ got d next → (rest : List ℕ) → SaidBy text d.net (d.table ++ rest)
unfolding network body rest
network-said text d next e behind =
    let head = and_then_lem _ _ _ _ (sym e) in
    let sized = and_then_lem _ _ _ _ head.3 in
    let all = and_then_lem _ _ _ _ sized.3 in
    let end = and_then_lem _ _ _ _ all.3 in
    let q : d ≡ all.0 = same-value _ _ _ _ end.3 in
    let r = header-range (text_of text) 0 head.0 head.1 (sym head.2) in
    let long = length-replicate {A = ℕ} vars_most 0 in
    let z = domains-said head.0.greatest head.0.vars 0 0 0 (replicate vars_most 0) (text_of text) head.1 sized.0 sized.1 (sym sized.2) (omega (arith, r.vars_few, long)) in
    let zero-vars : 0 + head.0.vars ≡ head.0.vars = omega arith in
    let g = domains_good head.0.greatest head.0.vars 0 0 0 (replicate vars_most 0) (text_of text) head.1 sized.0 sized.1 (sym sized.2) (omega (arith, r.vars_few)) none_good in
    let first = started head.0 sized.0 in
    let fine = started_fine head.0 sized.0 r (rw zero-vars at g) in
    let f = functions-said head.0.functions first (text_of text) sized.1 all.0 all.1 (sym all.2) fine in
    let whole = network_fine (text_of text) 0 d next (sym e) in
    let like : Like first d = subst (λ (x : Draft). Like first x) (sym q) f.like in
    record {
      spelt = record { top = head.0.top; sizes = z.all; functions = f.all };
      end = all.1;
      says = said-whole (text_of text) 0 head.0 head.1 z.all sized.1 f.all all.1 head.2 z.says f.says;
      top = like.top;
      vars = like.vars ∙ sym z.many;
      sizes = λ v l. ap (λ (l : List ℕ). get_or l v 0) like.sizes ∙ from_first sized.0.sizes z.all head.0.vars z.from v (rw like.vars at l);
      prices = λ p plan. price_front d behind whole p plan ∙ ap (λ (x : Draft). draft_price x p) q ∙ f.prices p (like_plan d first p (like_back first d like) plan) ∙ rw (started-price head.0 sized.0 p) (omega arith);
    }
  where
    from_first : (sizes all : List ℕ) (left : ℕ) → ((w : ℕ) → w < left → get_or sizes (0 + w) 0 ≡ get_or all w 0) → (w : ℕ) → w < left → get_or sizes w 0 ≡ get_or all w 0
    from_first sizes all left f w l = let e : 0 + w ≡ w = omega arith in let x = f w l in rw e at x

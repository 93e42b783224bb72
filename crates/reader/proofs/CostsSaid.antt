-- The costs that are read are what the text says of a function's tuples, each held at most k. Assumes nothing.
use Rattle.std.proofs.Common.{ℕ, zero, suc, ◌≤◌, ◌<◌, min, ◌≡◌, refl, sym, ap, ◌∙◌, Bool, true, false, cond, ◌≢◌, List, [], ◌∷◌, map, arith, T, length, get_or, set, replicate, length-set, get_or-set_same, get_or-set_other, eq-eqb, ne_eqb}
use lib.ListN.{length-replicate}
use Rattle.costs.specs.Limits.{cost_most}
use Rattle.costs.proofs.ListLaws.{list_at}
use Rattle.tokens.specs.Tokens.{Text}
use Rattle.tokens.specs.Steps.{Got, got, and_then}
use Rattle.tokens.specs.declared.numbers.Seen.{Seen}
use Rattle.tokens.specs.Numbers.{any_number}
use Rattle.tokens.specs.Words.{same, word, follows}
use Rattle.tokens.proofs.StepLaws.{and_then_lem, same-value, same_next}
use Rattle.tokens.proofs.WordLaws.{by_same}
use Rattle.tokens.proofs.NumberLaws.{in_range, number_there}
use Rattle.stretches.specs.Sizes.{product}
use Rattle.listed_costs.specs.Listed.{unlisted, listing, settled, listed}
use Rattle.soft_sums.specs.declared.Soft.{Soft}
use Rattle.soft_sums.specs.Soft.{soft_sum, gap, gap_cost, values_at, total, soft_cost, soft_costs}
use Rattle.function_costs.specs.FunctionCosts.{mark, keywords, marked, costs}
use Rattle.reader.specs.Said.{SaidTuple, numbers, said_tuples, cost_among, said_listed, said_soft, said_costs}
use Rattle.reader.proofs.CostsRead.{listing_long, gap_capped}
use Rattle.reader.proofs.OneLayout.{entry_of, Below, entry_below, entry_own, values_there, tuple_read}

-- what a list of tuples makes of the cells: a cell that was listed stays; any other holds the cost that these tuples list for its values, and where they list
-- none the default will settle it
record ListingRead (top : ℕ) (ds : List ℕ) (left : ℕ) (cells : List ℕ) (text : Text) (at : ℕ) (out : List ℕ) (next : ℕ) : Type 0 where
  tuples : List SaidTuple
  says : said_tuples (length ds) left text at ≡ got tuples next
  stays : (vs : List ℕ) → Below ds vs → get_or cells (entry_of ds vs) 0 ≢ unlisted → get_or out (entry_of ds vs) 0 ≡ get_or cells (entry_of ds vs) 0
  holds : (vs : List ℕ) → Below ds vs → get_or cells (entry_of ds vs) 0 ≡ unlisted → (default : ℕ) → settled (min top default) (get_or out (entry_of ds vs) 0) ≡ min top (cost_among default tuples vs)

settled-listed : (default c : ℕ) → c ≤ cost_most → settled default c ≡ c
unfolding settled
settled-listed default c l = rw (ne_eqb c unlisted (λ q. omega arith))

settled-unlisted : (default c : ℕ) → c ≡ unlisted → settled default c ≡ default
unfolding settled
settled-unlisted default c e = rw (eq-eqb c unlisted e)

tuples_more : (arity left : ℕ) (text : Text) (at : ℕ) (values : List ℕ) (n : ℕ) (cost : Seen) (m : ℕ) (ts : List SaidTuple) (next : ℕ) → numbers arity text at ≡ got values n → any_number text n ≡ got cost m
    → said_tuples arity left text m ≡ got ts next → said_tuples arity (suc left) text at ≡ got (record { values = values; cost = cost.value } ∷ ts) next
unfolding said_tuples and_then
tuples_more arity left text at values n cost m ts next a b c = rw (a, b, c)

-- one tuple more: it lists these values or others
module _ (top : ℕ) (most : top ≤ cost_most) (ds cells : List ℕ) (i c cost : ℕ) (values : List ℕ) (own : i ≡ entry_of ds values) (below : Below ds values) (inside : i < length cells) (capped : c ≡ min top cost)
    (out : List ℕ) (ts : List SaidTuple) (vs : List ℕ) (b : Below ds vs) (u : get_or cells (entry_of ds vs) 0 ≡ unlisted) (default : ℕ)
    (stays : get_or (set cells i c) (entry_of ds vs) 0 ≢ unlisted → get_or out (entry_of ds vs) 0 ≡ get_or (set cells i c) (entry_of ds vs) 0)
    (holds : get_or (set cells i c) (entry_of ds vs) 0 ≡ unlisted → (default : ℕ) → settled (min top default) (get_or out (entry_of ds vs) 0) ≡ min top (cost_among default ts vs)) where
  held : settled (min top default) (get_or out (entry_of ds vs) 0) ≡ min top (cond (same vs values) cost (cost_among default ts vs))
  held = go (same vs values) (by_same vs values).says (by_same vs values).finds
    where
      go : (s : Bool) → (T s → vs ≡ values) → (vs ≡ values → T s) → settled (min top default) (get_or out (entry_of ds vs) 0) ≡ min top (cond s cost (cost_among default ts vs))
      go true f g =
          let e : entry_of ds vs ≡ i = ap (entry_of ds) (f tt) ∙ sym own in
          let here : get_or (set cells i c) (entry_of ds vs) 0 ≡ c = rw e (get_or-set_same cells i c 0 inside) in
          let is : get_or out (entry_of ds vs) 0 ≡ c = stays (λ q. omega (arith, q, here, capped)) ∙ here in
          rw is (settled-listed (min top default) c (omega (arith, capped)) ∙ capped)
      go false f g = holds (get_or-set_other cells i (entry_of ds vs) c 0 (λ q. g (entry_own ds vs values b below (q ∙ own))) ∙ u) default

listing_read : (top : ℕ) → top ≤ cost_most → (ds : List ℕ) → 1 ≤ length ds → (left : ℕ) (cells : List ℕ) → length cells ≡ product ds → (text : Text) (at : ℕ) (out : List ℕ) (next : ℕ)
    → got out next ≡ listing top ds left cells text at → ListingRead top ds left cells text at out next
unfolding listing said_tuples
listing_read top most ds some zero cells whole text at out next e =
    let o : out ≡ cells = same-value _ _ _ _ e in
    record {
      tuples = [];
      says = ap (λ (n : ℕ). got [] n) (sym (same_next _ _ _ _ e));
      stays = λ vs b u. rw o;
      holds = λ vs b u default. rw o (settled-unlisted (min top default) (get_or cells (entry_of ds vs) 0) u);
    }
listing_read top most ds some (suc left) cells whole text at out next e =
    let x = and_then_lem _ _ _ _ e in
    let i = x.0 in
    let t = tuple_read cells ds 0 text at i x.1 (sym x.2) in
    let own : i ≡ entry_of ds t.values = omega (arith, t.entry_is) in
    let cost = and_then_lem _ _ _ _ x.3 in
    let c = min top cost.0.value in
    let r = listing_read top most ds some left (set cells i c) (length-set cells i c ∙ whole) text cost.1 out next cost.3 in
    record {
      tuples = record { values = t.values; cost = cost.0.value } ∷ r.tuples;
      says = tuples_more (length ds) left text at t.values x.1 cost.0 cost.1 r.tuples next t.says cost.2 r.says;
      stays = λ vs b u.
          let other = get_or-set_other cells i (entry_of ds vs) c 0 (λ q. u (rw q (t.fresh some))) in
          r.stays vs b (λ q. u (sym other ∙ q)) ∙ other;
      holds = λ vs b u default. held top most ds cells i c cost.0.value t.values own t.below (omega (arith, whole, own, entry_below ds t.values t.below)) refl out r.tuples vs b u default (r.stays vs b) (r.holds vs b);
    }

-- all tuples of a function, from cells that none has listed
blank_at : (n j : ℕ) → j < n → get_or (replicate n unlisted) j 0 ≡ unlisted
blank_at zero j l = absurd (omega arith)
blank_at (suc n) zero l = refl
blank_at (suc n) (suc j) l = blank_at n j (omega arith)

all_listed : (top : ℕ) → top ≤ cost_most → (ds : List ℕ) (many : ℕ) → (length ds ≡ 0 → many ≡ 0) → (text : Text) (at : ℕ) (cells : List ℕ) (next : ℕ)
    → got cells next ≡ listing top ds many (replicate (product ds) unlisted) text at
    → (ts : List SaidTuple) × (said_tuples (length ds) many text at ≡ got ts next)
    × ((vs : List ℕ) → Below ds vs → (default : ℕ) → settled (min top default) (get_or cells (entry_of ds vs) 0) ≡ min top (cost_among default ts vs))
unfolding listing said_tuples
all_listed top small [] zero none text at cells next e =
    let o : cells ≡ replicate (product []) unlisted = same-value _ _ _ _ e in
    ([], ap (λ (n : ℕ). got [] n) (sym (same_next _ _ _ _ e)), λ vs b default. rw o (settled-unlisted (min top default) (get_or (replicate (product []) unlisted) 0 0) (blank_at (product []) 0 (entry_below [] vs b))))
all_listed top small [] (suc many) none text at cells next e = absurd (omega (arith, none refl))
all_listed top small (d ∷ ds) many none text at cells next e =
    let r = listing_read top small (d ∷ ds) (omega arith) many (replicate (product (d ∷ ds)) unlisted) (length-replicate (product (d ∷ ds)) unlisted) text at cells next e in
    (r.tuples, r.says, λ vs b default. r.holds vs b (blank_at (product (d ∷ ds)) (entry_of (d ∷ ds) vs) (entry_below (d ∷ ds) vs b)) default)

-- the costs of a stretch are what the text says of its tuples, each held at most k
pub record Told (top : ℕ) (ds cs : List ℕ) (says : Got (List ℕ → ℕ)) (next : ℕ) : Type 0 where
  pub cost : List ℕ → ℕ
  pub said : says ≡ got cost next
  pub holds : (vs : List ℕ) → Below ds vs → get_or cs (entry_of ds vs) 0 ≡ min top (cost vs)

said-listed : (arity : ℕ) (text : Text) (at : ℕ) (default : Seen) (n : ℕ) (many : Seen) (m : ℕ) (ts : List SaidTuple) (next : ℕ) → any_number text at ≡ got default n → any_number text n ≡ got many m
    → said_tuples arity many.value text m ≡ got ts next → said_listed arity text at ≡ got (cost_among default.value ts) next
unfolding said_listed and_then
said-listed arity text at default n many m ts next a b c = rw (a, b, c)

map_at : (f : ℕ → ℕ) (xs : List ℕ) (j : ℕ) → j < length xs → get_or (map f xs) j 0 ≡ f (get_or xs j 0)
map_at f [] j l = absurd (omega arith)
map_at f (x ∷ xs) zero l = refl
map_at f (x ∷ xs) (suc j) l = map_at f xs j (omega arith)

listed-told : (top : ℕ) → top ≤ cost_most → (ds : List ℕ) (most : ℕ) → (length ds ≡ 0 → most ≡ 0) → (text : Text) (at : ℕ) (cs : List ℕ) (next : ℕ) → got cs next ≡ listed top ds most text at
    → Told top ds cs (said_listed (length ds) text at) next
unfolding listed
listed-told top small ds most none text at cs next e =
    let default = and_then_lem _ _ _ _ e in
    let many = and_then_lem _ _ _ _ default.3 in
    let cells = and_then_lem _ _ _ _ many.3 in
    let q : cs ≡ map (settled (min top default.0.value)) cells.0 = same-value _ _ _ _ cells.3 in
    let n : cells.1 ≡ next = sym (same_next _ _ _ _ cells.3) in
    let range = in_range 0 most text default.1 many.0 many.1 (sym many.2) in
    let there = number_there 0 most text default.1 many.0 many.1 (sym many.2) in
    let r = all_listed top small ds many.0.value (λ z. omega (arith, range.1, none z)) text many.1 cells.0 cells.1 (sym cells.2) in
    let long : length cells.0 ≡ product ds = listing_long top ds many.0.value (replicate (product ds) unlisted) text many.1 cells.0 cells.1 (sym cells.2) ∙ length-replicate (product ds) unlisted in
    record {
      cost = cost_among default.0.value r.0;
      said = said-listed (length ds) text at default.0 default.1 many.0 many.1 r.0 next default.2 there (r.1 ∙ ap (λ (m : ℕ). got r.0 m) n);
      holds = λ vs b. ap (λ (l : List ℕ). get_or l (entry_of ds vs) 0) q ∙ map_at (settled (min top default.0.value)) cells.0 (entry_of ds vs) (omega (arith, long, entry_below ds vs b)) ∙ r.2 vs b default.0.value;
    }

said_soft_lem : (top : ℕ) (text : Text) (at i n : ℕ) (soft : Soft) (next : ℕ) → word keywords text at ≡ got i n → soft_sum text n ≡ got soft next
    → said_soft top text at ≡ got (λ values. gap_cost top soft.mode soft.base (gap soft.comparator soft.limit (total values))) next
unfolding said_soft and_then
said_soft_lem top text at i n soft next a b = rw (a, b)

soft_there : (top : ℕ) (ds : List ℕ) (soft : Soft) (vs : List ℕ) → Below ds vs
    → get_or (soft_costs top ds soft) (entry_of ds vs) 0 ≡ min top (gap_cost top soft.mode soft.base (gap soft.comparator soft.limit (total vs)))
unfolding soft_costs soft_cost
soft_there top ds soft vs b =
    list_at (product ds) (λ e. gap_cost top soft.mode soft.base (gap soft.comparator soft.limit (total (values_at ds e)))) (entry_of ds vs) (entry_below ds vs b)
    ∙ rw (values_there ds vs b) (omega (arith, gap_capped top soft.mode soft.base (gap soft.comparator soft.limit (total vs))))

marked-told : (top : ℕ) (ds : List ℕ) (text : Text) (at : ℕ) (cs : List ℕ) (next : ℕ) → got cs next ≡ marked top ds text at → Told top ds cs (said_soft top text at) next
unfolding marked
marked-told top ds text at cs next e =
    let keyword = and_then_lem _ _ _ _ e in
    let soft = and_then_lem _ _ _ _ keyword.3 in
    let q : cs ≡ soft_costs top ds soft.0 = same-value _ _ _ _ soft.3 in
    let n : soft.1 ≡ next = sym (same_next _ _ _ _ soft.3) in
    record {
      cost = λ vs. gap_cost top soft.0.mode soft.0.base (gap soft.0.comparator soft.0.limit (total vs));
      said = said_soft_lem top text at keyword.0 keyword.1 soft.0 next keyword.2 (soft.2 ∙ ap (λ (m : ℕ). got soft.0 m) n);
      holds = λ vs b. ap (λ (l : List ℕ). get_or l (entry_of ds vs) 0) q ∙ soft_there top ds soft.0 vs b;
    }

said_either : (top more : ℕ) (text : Text) (at : ℕ) (b : Bool) (n : ℕ) → follows mark text at ≡ got b n → said_costs top (suc more) text at ≡ cond b (said_soft top) (said_listed (suc more)) text n
unfolding said_costs and_then
said_either top more text at b n e = rw e

pub costs-told : (top : ℕ) → top ≤ cost_most → (ds : List ℕ) (text : Text) (at : ℕ) (cs : List ℕ) (next : ℕ) → got cs next ≡ costs top ds text at → Told top ds cs (said_costs top (length ds) text at) next
unfolding costs said_costs
costs-told top small [] text at cs next e = listed-told top small [] 0 (λ z. refl) text at cs next e
costs-told top small (d ∷ ds) text at cs next e =
    let found = and_then_lem _ _ _ _ e in
    rw (said_either top (length ds) text at found.0 found.1 found.2) (choose found.0 found.1 found.3)
  where
    choose : (b : Bool) (after : ℕ) → got cs next ≡ cond b (marked top (d ∷ ds)) (listed top (d ∷ ds) (product (d ∷ ds))) text after
        → Told top (d ∷ ds) cs (cond b (said_soft top) (said_listed (suc (length ds))) text after) next
    choose true after f = marked-told top (d ∷ ds) text after cs next f
    choose false after f = listed-told top small (d ∷ ds) (product (d ∷ ds)) (λ z. absurd (omega arith)) text after cs next f

-- What the code does to boxes is what the rules say of shifts: the costs that each shift leaves, and when it is legal. Assumes nothing.
use Rattle.std.specs.Prelude.{Err}
use Prim.Native.Nat.{ℕ, ◌+◌, ◌*◌, ◌≤◌, ◌<◌, min}
use mathlib.Core.Path.{◌≡◌, refl, sym, ap, ◌∙◌}
use mathlib.Core.Bool.{Bool, true, false, ◌&&◌}
use mathlib.Core.List.{List, [], ◌∷◌}
use native.Mathlib.Omega.{arith}
use lib.Dec.{T, leb, ltb, eqb, leb→le, le→leb, eqb→eq, eqb_refl}
use lib.ListN.{get_or}
use Rattle.answers.specs.Answers.{Done}
use Rattle.answers.specs.declared.Refusal.TheVariants.{Illegal}
use Rattle.costs.specs.Cost.{plus}
use Rattle.costs.specs.Net.{Net, Costs, tuples, start, entries, costs_of}
use Rattle.costs.specs.Limits.{entries_most}
use Rattle.costs.specs.Networks.{Outline, in_row, scope_in, net_of}
use Rattle.costs.specs.Tests.{between, among, Decides}
use Rattle.costs.proofs.TestLaws.{is_true, is_false, same_test, so, by_and, by_ltb, by_map, by_between}
use Rattle.costs.proofs.RowLaws.{rest, rest_next, scope_unary, scope-function}
use Rattle.costs.proofs.NetLaws.{stretch_below}
use Rattle.boxes.specs.declared.Span.{Span}
use Rattle.boxes.specs.declared.Block.{Block}
use Rattle.boxes.specs.Places.{on}
use Rattle.boxes.specs.Ties.Boxes.{InSize, spanned, sides, cells, box_on, box_least, changed}
use Rattle.boxes.proofs.LoopLaws.{least_to_ge}
use Rattle.boxes.proofs.PlaceLaws.{costs-same, in_stretch_at}
use Rattle.boxes.proofs.BoxLaws.{covers-both, covers_in, box_on-value, box_least-value, box_least_one}
use Rattle.shifts.specs.declared.moves.Move.{Move}
use Rattle.shifts.specs.declared.moves.Move.TheVariants.{Project, Extend, Raise}
use Rattle.shifts.specs.Nodes.{live_in, fixing, live_entry, hit, least}
use Rattle.shifts.specs.Moves.{shifted, gives, joins, is_legal}
use Rattle.shifts.specs.Ties.Parts.{live_span, child_span, Holds, Laid}
use Rattle.shifts.specs.Doors.{leaves, tried}
use Rattle.shifts.proofs.LegalTests.{by_gives, by_joins}
use Rattle.shifts.proofs.NodeLaws.{least-gives}
use Rattle.shifts.proofs.PartLaws.{span_in, live_span_lem, child_span_lem, live_size, child-size, child_here, part_changes, part_least}

-- each live tuple costs at least m where the least of them does
pub gives-least : (n : Net) (live : ℕ → ℕ → Bool) (t : ℕ → ℕ) (s m : ℕ) → m ≤ n.top → gives n live t s m ≡ leb m (least n live t s)
unfolding least
gives-least n live t s m l = same_test (gives n live t s m) (leb m (least n live t s))
    (λ q. le→leb m (least n live t s) (least_to_ge n.top m (live_entry n.size live (n.scope s)) (λ e. t (start n s + e)) (tuples n.size (n.scope s)) l
    (λ e x y. (by_gives n live t s m).says q (start n s + e) (rw (in_stretch_at (start n s) (tuples n.size (n.scope s)) (live_entry n.size live (n.scope s)) e x) y))))
    (λ q. (by_gives n live t s m).finds (λ j h. let low = leb→le m (least n live t s) q in omega (arith, least-gives n live t s j h)))

module _ (o : Outline) (sizes rows fx : List ℕ) (i : ℕ) (li : i < o.vars) where
  abbrev net : Net
  net = net_of o sizes rows

  abbrev live : ℕ → ℕ → Bool
  live = live_in sizes fx

  own : net.scope i ≡ i ∷ []
  own = scope_unary o.vars rows i li

  -- a variable's live unary costs are a row
  row_changes : (change g : ℕ → ℕ) → box_on (spanned (live_span sizes fx i) ∷ []) (start net i) change g ≡ on (hit net live i) change g
  row_changes change g = rw own (rw own at (part_changes net live (live_span sizes fx) (live_size sizes fx) (live_span_lem sizes fx) i change g))

  pub row-least : (x : Span) (at r : ℕ) (t : List ℕ) → x ≡ live_span sizes fx i → at ≡ start net i → r ≡ box_least (spanned x ∷ []) at o.top (cells t) → r ≡ least net live (cells t) i
  row-least x at r t ex ea e = e ∙ rw (ex, ea) (rw own at (part_least net live (live_span sizes fx) (live_size sizes fx) (live_span_lem sizes fx) i (cells t)))

  -- RAISE
  pub raises : (x : Span) (at m constant : ℕ) (t t' : List ℕ) → x ≡ live_span sizes fx i → at ≡ start net i → cells t' ≡ box_on (spanned x ∷ []) at (changed false o.top m) (cells t)
      → costs_of (plus o.top constant m) t' ≡ shifted net live (Raise i m) (costs_of constant t)
  unfolding shifted
  raises x at m constant t t' ex ea e =
      let all : cells t' ≡ on (hit net live i) (changed false o.top m) (cells t) = e ∙ rw (ex, ea) (row_changes (changed false o.top m) (cells t)) in
      costs-same _ _ refl (λ j. ap (λ (q : ℕ → ℕ). q j) all)

  module _ (a : ℕ) (la : a < get_or sizes i 0) where
    abbrev child : ℕ → ℕ → Bool
    child = fixing live i a

    -- a value's unary cost is one place
    place_changes : (at : ℕ) (change g : ℕ → ℕ) → at ≡ start net i + a → box_on [] at change g ≡ on (hit net child i) change g
    place_changes at change g ea =
        let e : start net i + a * 1 ≡ start net i + a = omega arith in
        let v = box_on-value [] (start net i) (get_or sizes i 0) a change g la in
        let whole = rw own at (part_changes net child (child_span sizes fx i a) (child-size sizes fx i a) (child_span_lem sizes fx i a) i change g) in
        rw (ea, ← e) (sym v ∙ rw (ap spanned (child_here sizes fx i a i refl), own) whole)

    pub place_least : (at : ℕ) (t : List ℕ) → at ≡ start net i + a → min o.top (get_or t at 0) ≡ least net child (cells t) i
    place_least at t ea =
        let e : start net i + a * 1 ≡ start net i + a = omega arith in
        let v = box_least-value [] (start net i) (get_or sizes i 0) a o.top (cells t) la in
        let whole = rw own at (part_least net child (child_span sizes fx i a) (child-size sizes fx i a) (child_span_lem sizes fx i a) i (cells t)) in
        rw (ea, ← e) (sym (box_least_one (start net i + a * 1) o.top t) ∙ sym v ∙ rw (ap spanned (child_here sizes fx i a i refl)) whole)

    module _ (f at m constant : ℕ) (b : Block) (t u t' : List ℕ) (h : Holds net child (o.vars + f) b) (ea : at ≡ start net i + a) where
      -- PROJECT: the function gives, then the unary cost takes
      pub projects : cells u ≡ box_on (sides b) b.at (changed false o.top m) (cells t) → cells t' ≡ box_on [] at (changed true o.top m) (cells u)
          → costs_of constant t' ≡ shifted net live (Project f i a m) (costs_of constant t)
      unfolding shifted
      projects d e = costs-same _ _ refl (λ j. ap (λ (q : ℕ → ℕ). q j) (e ∙ place_changes at (changed true o.top m) (cells u) ea ∙ ap (on (hit net child i) (changed true o.top m)) (d ∙ h.changes (changed false o.top m) (cells t))))

      -- EXTEND: the unary cost gives, then the function takes
      pub extends : cells u ≡ box_on [] at (changed false o.top m) (cells t) → cells t' ≡ box_on (sides b) b.at (changed true o.top m) (cells u)
          → costs_of constant t' ≡ shifted net live (Extend f i a m) (costs_of constant t)
      unfolding shifted
      extends d e = costs-same _ _ refl (λ j. ap (λ (q : ℕ → ℕ). q j) (e ∙ h.changes (changed true o.top m) (cells u) ∙ ap (on (hit net child (o.vars + f)) (changed true o.top m)) (d ∙ place_changes at (changed false o.top m) (cells t) ea)))

-- what is tried: legal, or not
pub tried_done : (n : Net) (live : ℕ → ℕ → Bool) (x : Move) (constant after : ℕ) (t t' : List ℕ) → is_legal n live (costs_of constant t) x ≡ true → costs_of after t' ≡ shifted n live x (costs_of constant t)
    → leaves (record { answer = Done; constant = after }) t' ≡ tried n live x constant t
unfolding tried
tried_done n live x constant after t t' e h = rw e (ap (λ (c : Costs). record { answer = Done; costs = c }) h)

pub tried_illegal : (n : Net) (live : ℕ → ℕ → Bool) (x : Move) (constant : ℕ) (t : List ℕ) → is_legal n live (costs_of constant t) x ≡ false → leaves (record { answer = Err Illegal; constant = 0 }) t ≡ tried n live x constant t
unfolding tried
tried_illegal n live x constant t e = rw e

-- a shift is legal where the code's first tests pass and the giver has enough
module _ (n : Net) (live : ℕ → ℕ → Bool) (x : Move) (constant m : ℕ) (t : List ℕ) (may : Bool) (has : ℕ) (legal : is_legal n live (costs_of constant t) x ≡ (may && leb m has)) where
  pub tried_not : may ≡ false → leaves (record { answer = Err Illegal; constant = 0 }) t ≡ tried n live x constant t
  tried_not e = tried_illegal n live x constant t (legal ∙ rw e)

  pub tried_less : has < m → leaves (record { answer = Err Illegal; constant = 0 }) t ≡ tried n live x constant t
  tried_less l = tried_illegal n live x constant t (legal ∙ rw (is_false (leb m has) (λ q. let h = leb→le m has q in omega arith)) (off may))
    where
      off : (b : Bool) → (b && false) ≡ false
      off true = refl
      off false = refl

  pub tried_enough : (w : ℕ) (t' : List ℕ) → may ≡ true → m ≤ has → costs_of w t' ≡ shifted n live x (costs_of constant t) → leaves (record { answer = Done; constant = w }) t' ≡ tried n live x constant t
  tried_enough w t' e l h = tried_done n live x constant w t t' (legal ∙ rw (e, is_true (leb m has) (le→leb m has l))) h

regroup : (k m : ℕ) (b g h : Bool) → (m ≤ k → g ≡ h) → (between 1 k m && (b && g)) ≡ ((between 1 k m && b) && h)
regroup k m b g h e = go (between 1 k m) (λ t. ((by_between 1 k m).says t).1)
  where
    go : (a : Bool) → (T a → m ≤ k) → (a && (b && g)) ≡ ((a && b) && h)
    go true f = rw (e (f tt))
    go false f = refl

pub legal_project : (n : Net) (live : ℕ → ℕ → Bool) (c : Costs) (f i a m : ℕ) (may : Bool) (has : ℕ) → may ≡ (between 1 n.top m && joins n live f i a) → has ≡ least n (fixing live i a) c.at (n.vars + f)
    → is_legal n live c (Project f i a m) ≡ (may && leb m has)
unfolding is_legal
legal_project n live c f i a m may has d e =
    regroup n.top m (joins n live f i a) (gives n (fixing live i a) c.at (n.vars + f) m) (leb m (least n (fixing live i a) c.at (n.vars + f))) (gives-least n (fixing live i a) c.at (n.vars + f) m) ∙ rw (d, e)

pub legal_extend : (n : Net) (live : ℕ → ℕ → Bool) (c : Costs) (f i a m : ℕ) (may : Bool) (has : ℕ) → may ≡ (between 1 n.top m && joins n live f i a) → min n.top has ≡ least n (fixing live i a) c.at i
    → is_legal n live c (Extend f i a m) ≡ (may && leb m has)
unfolding is_legal
legal_extend n live c f i a m may has d e =
    regroup n.top m (joins n live f i a) (gives n (fixing live i a) c.at i m) (leb m has)
    (λ l. gives-least n (fixing live i a) c.at i m l ∙ rw (← e) (same_test (leb m (min n.top has)) (leb m has)
    (λ t. le→leb m has (omega (arith, leb→le m (min n.top has) t))) (λ t. le→leb m (min n.top has) (omega (arith, leb→le m has t))))) ∙ rw d

-- where the first tests fail, whatever the giver has
pub extend_not : (n : Net) (live : ℕ → ℕ → Bool) (f i a m constant : ℕ) (t : List ℕ) → (between 1 n.top m && joins n live f i a) ≡ false
    → leaves (record { answer = Err Illegal; constant = 0 }) t ≡ tried n live (Extend f i a m) constant t
unfolding is_legal
extend_not n live f i a m constant t e = tried_illegal n live (Extend f i a m) constant t (regroup n.top m (joins n live f i a) _ _ (λ l. refl) ∙ rw e)

pub legal_raise : (n : Net) (live : ℕ → ℕ → Bool) (c : Costs) (i m : ℕ) (may : Bool) (has : ℕ) → may ≡ (between 1 n.top m && ltb i n.vars) → has ≡ least n live c.at i
    → is_legal n live c (Raise i m) ≡ (may && leb m has)
unfolding is_legal
legal_raise n live c i m may has d e = regroup n.top m (ltb i n.vars) (gives n live c.at i m) (leb m (least n live c.at i)) (gives-least n live c.at i m) ∙ rw (d, e)

pub block_least : (n : Net) (live : ℕ → ℕ → Bool) (s : ℕ) (b : Block) (r : ℕ) (t : List ℕ) → Holds n live s b → r ≡ box_least (sides b) b.at n.top (cells t) → r ≡ least n live (cells t) s
block_least n live s b r t h e = e ∙ h.least (cells t)

-- the code's first tests, as facts
pub record MayExchange (o : Outline) (sizes rows fx : List ℕ) (f i a m : ℕ) : Type 0 where
  pub some : 1 ≤ m
  pub most : m ≤ o.top
  pub function : f < o.functions
  pub variable : i < o.vars
  pub scoped : T (among i (scope_in (in_row rows f)))
  pub value : a < get_or sizes i 0
  pub lives : T (live_in sizes fx i a)

pub by_exchange : (o : Outline) (sizes rows fx : List ℕ) (f i a m : ℕ)
    → Decides (between 1 o.top m && joins (net_of o sizes rows) (live_in sizes fx) f i a) (MayExchange o sizes rows fx f i a m)
by_exchange o sizes rows fx f i a m =
    by_map
    (λ (range, j). record { some = range.0; most = range.1; function = omega (arith, j.function); variable = j.variable; scoped = rw scope at j.scoped; value = j.value; lives = j.lives })
    (λ h. ((h.some, h.most), record { function = omega (arith, h.function); variable = h.variable; scoped = rw scope h.scoped; value = h.value; lives = h.lives }))
    (by_and (by_between 1 o.top m) (by_joins (net_of o sizes rows) (live_in sizes fx) f i a))
  where
    scope : (net_of o sizes rows).scope (o.vars + f) ≡ scope_in (in_row rows f)
    scope = scope-function o.vars rows f

-- what their answers say, where they let a shift go on
pub exchange_may : (o : Outline) (sizes rows fx : List ℕ) (f i a m : ℕ) (r : Bool)
    → r ≡ (between 1 o.top m && joins (net_of o sizes rows) (live_in sizes fx) f i a) → r ≡ true → MayExchange o sizes rows fx f i a m
exchange_may o sizes rows fx f i a m r e t = (by_exchange o sizes rows fx f i a m).says (so (sym e ∙ t))

pub raise_may : (o : Outline) (i m : ℕ) (r : Bool) → r ≡ (between 1 o.top m && ltb i o.vars) → r ≡ true → i < o.vars
raise_may o i m r e t = ((by_and (by_between 1 o.top m) (by_ltb i o.vars)).says (so (sym e ∙ t))).1

pub by_live : (sizes fx : List ℕ) (v b : ℕ) → Decides (live_in sizes fx v b) (((live_span sizes fx v).from ≤ b) × (b < (live_span sizes fx v).to))
by_live sizes fx v b = record {
  says = λ t. let r = covers-both (spanned (live_span sizes fx v)) b (rw (live_span_lem sizes fx v b) at t) in (leb→le (live_span sizes fx v).from b r.0, r.1);
  finds = λ h. rw (live_span_lem sizes fx v b) (covers_in (spanned (live_span sizes fx v)) b (le→leb (live_span sizes fx v).from b h.0) h.1);
}

-- a scope searched place by place
pub among_found : (i : ℕ) (row : ℕ → ℕ) (j : ℕ) → row 0 ≤ 3 → j < row 0 → i ≡ row (j + 1) → among i (rest row j) ≡ true
among_found i row j h l e = rw (rest_next row j h l, e, is_true (eqb (row (j + 1)) (row (j + 1))) (eqb_refl (row (j + 1))))

pub among-passed : (i : ℕ) (row : ℕ → ℕ) (j : ℕ) → row 0 ≤ 3 → j < row 0 → (i ≡ row (j + 1) → ⊥) → among i (rest row j) ≡ among i (rest row (j + 1))
among-passed i row j h l d = rw (rest_next row j h l, is_false (eqb i (row (j + 1))) (λ t. d (eqb→eq i (row (j + 1)) t)))

-- where a variable's unary costs stand
module _ (o : Outline) (sizes rows starts firsts fx : List ℕ) (room : ℕ) (laid : Laid o sizes rows starts firsts fx room) (i : ℕ) (li : i < o.vars) where
  pub unary_inside : get_or firsts i 0 + get_or sizes i 0 ≤ entries (net_of o sizes rows)
  unary_inside =
      let n = net_of o sizes rows in
      let e : tuples n.size (n.scope i) ≡ get_or sizes i 0 * 1 = rw (scope_unary o.vars rows i li) in
      omega (arith, e, laid.first i li, stretch_below n i (omega arith))

  pub unary_roomy : (get_or firsts i 0 + get_or sizes i 0 ≤ room) × (get_or firsts i 0 + get_or sizes i 0 ≤ entries_most)
  unary_roomy = (omega (arith, unary_inside, laid.roomy), omega (arith, unary_inside, laid.ready.few))

  pub row_sits : (x : Span) (at : ℕ) → x ≡ live_span sizes fx i → at ≡ get_or firsts i 0 → InSize x × (at + x.size ≤ room)
  row_sits x at ex ea = rw ex (span_in (get_or fx i 0) (get_or sizes i 0) (laid.node i li), omega (arith, unary_roomy, live_size sizes fx i))

-- A part's live tuples are a box, at any arity: what the code's loops do to a box is what the rules say of the part. Assumes nothing.
use Prim.Native.Nat.{ℕ, zero, suc, ◌+◌, ◌-◌, ◌*◌, ◌/◌, ◌%◌, ◌≤◌, ◌<◌}
use mathlib.Core.Path.{◌≡◌, refl, sym, ◌∙◌, fun_ext}
use mathlib.Core.Bool.{Bool, true, false, cond}
use mathlib.Core.Logic.{◌≢◌}
use mathlib.Core.List.{List, [], ◌∷◌}
use native.Mathlib.Omega.{arith}
use native.Mathlib.Nat.{mul-one, mul-le-mul}
use lib.Dec.{T, eqb, ltb, leb→le, le→leb, ltb→lt, lt→ltb, eqb→eq, eqb_refl}
use lib.ListN.{length, get_or, take}
use Rattle.std.proofs.lemmas.List.{get_or-take, length-take-le}
use Rattle.costs.specs.Limits.{size_most, entries_most}
use Rattle.costs.specs.Net.{Net, All, tuples, start}
use Rattle.costs.specs.Networks.{Outline, in_row, scope_in, net_of, Ready}
use Rattle.costs.proofs.TestLaws.{is_true, is_false, same_test}
use Rattle.costs.proofs.NetLaws.{stretch_below}
use Rattle.costs.proofs.RowLaws.{scope-function}
use Rattle.boxes.specs.declared.Span.{Span}
use Rattle.boxes.specs.declared.Block.{Block}
use Rattle.boxes.specs.Places.{on}
use Rattle.boxes.specs.Ties.Boxes.{Dim, covers, range, spanned, InSize, Sits, sides, volume, in_box, box_on, box_least}
use Rattle.boxes.proofs.BoxLaws.{covers-both, covers_in, box_on_unit, box_least_unit}
use Rattle.shifts.specs.Nodes.{live_by, live_in, fixing, live_entry, hit, least}
use Rattle.shifts.specs.Ties.Parts.{span_of, live_span, child_span, Holds}

-- a span has the live values
fixed_span : (d a b : ℕ) → eqb b a ≡ covers (spanned (span_of (suc a) d)) b
fixed_span d a b = same_test (eqb b a) (covers (range d a (suc a)) b)
    (λ t. let e = eqb→eq b a t in covers_in (range d a (suc a)) b (le→leb a b (omega arith)) (omega arith))
    (λ t. let e : b ≡ a = (let r = covers-both (range d a (suc a)) b t in omega (arith, leb→le a b r.0, r.1)) in rw e (eqb_refl a))

byte_span : (x d b : ℕ) → live_by x d b ≡ covers (spanned (span_of x d)) b
byte_span zero d b = same_test (ltb b d) (covers (range d 0 d) b) (λ t. covers_in (range d 0 d) b (le→leb 0 b (omega arith)) (ltb→lt b d t)) (λ t. lt→ltb b d (covers-both (range d 0 d) b t).1)
byte_span (suc a) d b = fixed_span d a b

pub live_span_lem : (sizes fx : List ℕ) (v b : ℕ) → live_in sizes fx v b ≡ covers (spanned (live_span sizes fx v)) b
live_span_lem sizes fx v b = byte_span (get_or fx v 0) (get_or sizes v 0) b

pub child_span_lem : (sizes fx : List ℕ) (i a v b : ℕ) → fixing (live_in sizes fx) i a v b ≡ covers (spanned (child_span sizes fx i a v)) b
unfolding fixing child_span
child_span_lem sizes fx i a v b = go (eqb v i)
  where
    go : (t : Bool) → cond t (eqb b a) (live_in sizes fx v b) ≡ covers (spanned (cond t (span_of (suc a) (get_or sizes v 0)) (live_span sizes fx v))) b
    go true = fixed_span (get_or sizes v 0) a b
    go false = live_span_lem sizes fx v b

span_size : (x d : ℕ) → (span_of x d).size ≡ d
span_size zero d = refl
span_size (suc a) d = refl

pub live_size : (sizes fx : List ℕ) (v : ℕ) → (live_span sizes fx v).size ≡ get_or sizes v 0
live_size sizes fx v = span_size (get_or fx v 0) (get_or sizes v 0)

pub child-size : (sizes fx : List ℕ) (i a v : ℕ) → (child_span sizes fx i a v).size ≡ get_or sizes v 0
unfolding child_span
child-size sizes fx i a v = go (eqb v i)
  where
    go : (t : Bool) → (cond t (span_of (suc a) (get_or sizes v 0)) (live_span sizes fx v)).size ≡ get_or sizes v 0
    go true = refl
    go false = span_size (get_or fx v 0) (get_or sizes v 0)

-- what the code does by cases
pub span_free : (x d : ℕ) → x ≡ 0 → record { size = d; from = 0; to = d } ≡ span_of x d
span_free x d e = rw e

pub span_fixed : (x d : ℕ) → (x ≡ 0 → ⊥) → record { size = d; from = x - 1; to = x } ≡ span_of x d
span_fixed zero d h = absurd (h refl)
span_fixed (suc a) d h = let e : suc a - 1 ≡ a = omega arith in rw e

pub child_here : (sizes fx : List ℕ) (i a v : ℕ) → v ≡ i → record { size = get_or sizes v 0; from = a; to = a + 1 } ≡ child_span sizes fx i a v
unfolding child_span
child_here sizes fx i a v q = let e : a + 1 ≡ suc a = omega arith in rw (q, is_true (eqb i i) (eqb_refl i), e)

pub child_else : (sizes fx : List ℕ) (i a v : ℕ) → (v ≡ i → ⊥) → live_span sizes fx v ≡ child_span sizes fx i a v
unfolding child_span
child_else sizes fx i a v d = rw (is_false (eqb v i) (λ t. d (eqb→eq v i t)))

-- spans lie in the sizes, at a legal node
pub span_in : (x d : ℕ) → x ≤ d → InSize (span_of x d)
span_in zero d l = record { ordered = omega arith; within = omega arith }
span_in (suc a) d l = record { ordered = omega arith; within = omega arith }

pub child_in : (sizes fx : List ℕ) (i a v : ℕ) → a < get_or sizes i 0 → get_or fx v 0 ≤ get_or sizes v 0 → InSize (child_span sizes fx i a v)
unfolding child_span
child_in sizes fx i a v h l = go (eqb v i) (eqb→eq v i)
  where
    go : (t : Bool) → (T t → v ≡ i) → InSize (cond t (span_of (suc a) (get_or sizes v 0)) (live_span sizes fx v))
    go true q = span_in (suc a) (get_or sizes v 0) (rw (q tt) h)
    go false q = span_in (get_or fx v 0) (get_or sizes v 0) l

-- the spans of a scope
abbrev pub spans : (ℕ → Span) → List ℕ → List Dim
spans sp [] = []
spans sp (v ∷ vs) = spanned (sp v) ∷ spans sp vs

module _ (size : ℕ → ℕ) (live : ℕ → ℕ → Bool) (sp : ℕ → Span) (whole : (v : ℕ) → (sp v).size ≡ size v) (same : (v b : ℕ) → live v b ≡ covers (spanned (sp v)) b) where
  spans_volume : (vs : List ℕ) → volume (spans sp vs) ≡ tuples size vs
  spans_volume [] = refl
  spans_volume (v ∷ vs) = rw (whole v, spans_volume vs)

  spans_in : (vs : List ℕ) (e : ℕ) → in_box (spans sp vs) e ≡ live_entry size live vs e
  spans_in [] e = refl
  spans_in (v ∷ vs) e = rw (spans_volume vs, same v (e / tuples size vs), spans_in vs (e % tuples size vs))

-- the box of a part's spans is its live tuples
module _ (n : Net) (live : ℕ → ℕ → Bool) (sp : ℕ → Span) (whole : (v : ℕ) → (sp v).size ≡ n.size v) (same : (v b : ℕ) → live v b ≡ covers (spanned (sp v)) b) (s : ℕ) where
  pub part_changes : (change f : ℕ → ℕ) → box_on (spans sp (n.scope s)) (start n s) change f ≡ on (hit n live s) change f
  unfolding box_on
  part_changes change f = rw (spans_volume n.size live sp whole same (n.scope s), fun_ext (spans_in n.size live sp whole same (n.scope s)))

  pub part_least : (t : ℕ → ℕ) → box_least (spans sp (n.scope s)) (start n s) n.top t ≡ least n live t s
  unfolding box_least least
  part_least t = rw (spans_volume n.size live sp whole same (n.scope s), fun_ext (spans_in n.size live sp whole same (n.scope s)))

  pub part_volume : volume (spans sp (n.scope s)) ≡ tuples n.size (n.scope s)
  part_volume = spans_volume n.size live sp whole same (n.scope s)

-- a block with a missing dimension, and one without
module _ (o : Outline) (sizes rows starts fx : List ℕ) (ready : Ready o sizes rows starts)
    (node : (v : ℕ) → v < o.vars → get_or fx v 0 ≤ get_or sizes v 0) (f i a : ℕ) (lf : f < o.functions) (li : i < o.vars) (la : a < get_or sizes i 0) where
  abbrev net : Net
  net = net_of o sizes rows

  abbrev sp : ℕ → Span
  sp v = child_span sizes fx i a v

  abbrev row : ℕ → ℕ
  row j = in_row rows f j

  small_in : (v : ℕ) → v < o.vars → InSize (sp v) × ((sp v).size ≤ size_most)
  small_in v l = (child_in sizes fx i a v la (node v l), rw (child-size sizes fx i a v) (ready.scoped.small v l))

  few_in : (x y : ℕ) → x < o.vars → y < o.vars → (sp x).size * (sp y).size ≤ entries_most
  few_in x y l m = omega (arith, mul-le-mul {n₁ = (sp x).size} {m₁ = (sp y).size} {n₂ = size_most} {m₂ = size_most} (small_in x l).1 (small_in y m).1)

  -- a block that is the box of the scope, each side in its size
  holds : (b : Block) → b.at ≡ get_or starts f 0 → ((change g : ℕ → ℕ) → box_on (sides b) b.at change g ≡ box_on (spans sp (scope_in row)) b.at change g)
      → ((k : ℕ) (g : ℕ → ℕ) → box_least (sides b) b.at k g ≡ box_least (spans sp (scope_in row)) b.at k g)
      → b.outer.size * (b.middle.size * b.inner.size) ≡ volume (spans sp (scope_in row))
      → InSize b.outer → InSize b.middle → InSize b.inner → b.middle.size * b.inner.size ≤ entries_most
      → Holds net (fixing (live_in sizes fx) i a) (o.vars + f) b
  holds b at on' least' many outer middle inner few = record {
    changes = λ change g. on' change g ∙ rw (placed, ← scoped) (part_changes net (fixing (live_in sizes fx) i a) sp (child-size sizes fx i a) (child_span_lem sizes fx i a) (o.vars + f) change g);
    least = λ t. least' o.top t ∙ rw (placed, ← scoped) (part_least net (fixing (live_in sizes fx) i a) sp (child-size sizes fx i a) (child_span_lem sizes fx i a) (o.vars + f) t);
    sits = record {
      outer = outer;
      middle = middle;
      inner = inner;
      fits = omega (arith, many, roomy, stretch_below net (o.vars + f) (omega arith), placed);
      few = few;
    };
  }
    where
      scoped : net.scope (o.vars + f) ≡ scope_in row
      scoped = scope-function o.vars rows f

      placed : b.at ≡ start net (o.vars + f)
      placed = at ∙ ready.placed f lf

      roomy : volume (spans sp (scope_in row)) ≡ tuples net.size (net.scope (o.vars + f))
      roomy = rw (← scoped) (part_volume net (fixing (live_in sizes fx) i a) sp (child-size sizes fx i a) (child_span_lem sizes fx i a) (o.vars + f))

  pub holds_three : (arity at : ℕ) (x y z : Span) → arity ≡ row 0 → 2 ≢ arity → at ≡ get_or starts f 0 → x ≡ sp (row 1) → y ≡ sp (row 2) → z ≡ sp (row 3)
      → Holds net (fixing (live_in sizes fx) i a) (o.vars + f) (record { at = at; outer = x; middle = y; inner = z })
  holds_three arity at x y z e d ea ex ey ez =
      let three : row 0 ≡ 3 = omega (arith, ready.scoped.arity_least f lf, ready.scoped.arity_at_most f lf) in
      let known : All (λ v. v < o.vars) (take 3 (row 1 ∷ row 2 ∷ row 3 ∷ [])) = rw three at (ready.scoped.known f lf) in
      rw (ex, ey, ez) (
      holds _ ea (λ change g. rw three) (λ k g. rw three) (rw (three, mul-one (sp (row 3)).size))
      (small_in (row 1) known.0).0 (small_in (row 2) known.1.0).0 (small_in (row 3) known.1.1.0).0 (few_in (row 2) (row 3) known.1.0 known.1.1.0)
      )

  pub holds_two : (arity at : ℕ) (y z : Span) → arity ≡ row 0 → arity ≡ 2 → at ≡ get_or starts f 0 → y ≡ sp (row 1) → z ≡ sp (row 2)
      → Holds net (fixing (live_in sizes fx) i a) (o.vars + f) (record { at = at; outer = record { size = 1; from = 0; to = 1 }; middle = y; inner = z })
  holds_two arity at y z e d ea ey ez =
      let two : row 0 ≡ 2 = sym e ∙ d in
      let known : All (λ v. v < o.vars) (take 2 (row 1 ∷ row 2 ∷ row 3 ∷ [])) = rw two at (ready.scoped.known f lf) in
      rw (ey, ez) (
      holds _ ea (λ change g. rw two (box_on_unit _ at change g)) (λ k g. rw two (box_least_unit _ at k g)) (rw (two, mul-one (sp (row 2)).size) (omega arith))
      (record { ordered = omega arith; within = omega arith }) (small_in (row 1) known.0).0 (small_in (row 2) known.1.0).0 (few_in (row 1) (row 2) known.0 known.1.0)
      )

-- a block within a table lies within a longer one
pub roomier : {b : Block} {m n : ℕ} → Sits b m → m ≤ n → Sits b n
roomier h l = record { outer = h.outer; middle = h.middle; inner = h.inner; fits = omega (arith, h.fits); few = h.few }

-- what stands in a scope, and how long it is
abbrev three : (ℕ → ℕ) → List ℕ
three row = row 1 ∷ row 2 ∷ row 3 ∷ []

pub scope_long : (row : ℕ → ℕ) → row 0 ≤ 3 → length (scope_in row) ≡ row 0
scope_long row h = length-take-le (row 0) (three row) h

pub scope_first : (row : ℕ → ℕ) → 0 < row 0 → get_or (scope_in row) 0 0 ≡ row 1
scope_first row l = get_or-take (row 0) (three row) 0 0 l

pub scope_second : (row : ℕ → ℕ) → 1 < row 0 → get_or (scope_in row) 1 0 ≡ row 2
scope_second row l = get_or-take (row 0) (three row) 1 0 l

pub scope_third : (row : ℕ → ℕ) → 2 < row 0 → get_or (scope_in row) 2 0 ≡ row 3
scope_third row l = get_or-take (row 0) (three row) 2 0 l

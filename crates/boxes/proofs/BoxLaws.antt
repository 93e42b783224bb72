-- One value more of a dimension is the box of the other dimensions, one stride on: the turn of every loop over a box, at any arity. Assumes nothing.
use Rattle.std.proofs.Common.{ℕ, zero, suc, ◌+◌, ◌*◌, ◌/◌, ◌%◌, ◌≤◌, ◌<◌, min, ◌≡◌, refl, sym, ap, ◌∙◌, Bool, true, false, cond, ◌&&◌, List, [], ◌∷◌, arith, mul-le-mul_right, suc-mul, div-add-mod', mod-lt, get_or, set, length, get_or-set_same, get_or-set_other, T, ltb, leb→le, le→leb, ltb→lt, lt→ltb}
use mathlib.Core.Path.{fun_ext}
use native.Mathlib.Decide.{ℕ_discrete, dec_le}
use lib.Arith.{digits_lt, digits_div, digits_mod}
use Rattle.costs.proofs.TestLaws.{is_true, is_false, same_test, both, and}
use Rattle.boxes.specs.Loops.{least_to}
use Rattle.boxes.specs.Places.{in_stretch}
use Rattle.boxes.specs.Ties.Boxes.{Dim, covers, range, volume, in_box, cells, box_on, box_least}
use Rattle.boxes.proofs.LoopLaws.{least_to_cap, least_to_le, least_to_ge}
use Rattle.boxes.proofs.PlaceLaws.{in_stretch-entry, in_stretch-range, in_stretch_at}

-- the same dimension with another end
abbrev pub up_to : Dim → ℕ → Dim
up_to x v = record { size = x.size; live = x.live; end = v }

pub covers-both : (x : Dim) (b : ℕ) → T (covers x b) → T (x.live b) × (b < x.end)
unfolding covers
covers-both x b t = ((both (x.live b) _ t).0, ltb→lt b x.end (both (x.live b) _ t).1)

pub covers_in : (x : Dim) (b : ℕ) → T (x.live b) → b < x.end → T (covers x b)
unfolding covers
covers_in x b h l = and (x.live b) (ltb b x.end) h (lt→ltb b x.end l)

some_width : (d s e : ℕ) → e < d * s → 0 < s
some_width d zero e l = absurd (omega arith)
some_width d (suc s) e l = omega arith

first_lt : (d s e : ℕ) → e < d * s → e / s < d
first_lt d s e l = elim (dec_le d (e / s)) [ yes q ↦ absurd (omega (arith, div-add-mod' e s, mul-le-mul_right s q)) | no q ↦ omega arith ]

-- a place is changed once: now, or before
changed_once : (change : ℕ → ℕ) (x : ℕ) (new old now : Bool) → (T now → (new ≡ true) × (old ≡ false)) → ((T now → ⊥) → new ≡ old)
    → cond new (change x) x ≡ cond now (change (cond old (change x) x)) (cond old (change x) x)
changed_once change x new old true f g = rw ((f tt).0, (f tt).1)
changed_once change x new old false f g = rw (g (λ t. t))

module _ (at : ℕ) (x : Dim) (s : ℕ) (A : ℕ → Bool) where
  -- an entry whose first value is covered below v, and whose others are in A
  abbrev entry_in : ℕ → ℕ → Bool
  entry_in v e = covers (up_to x v) (e / s) && A (e % s)

  abbrev box : ℕ → ℕ → Bool
  box v = in_stretch at (x.size * s) (entry_in v)

  box_at : (v q r : ℕ) → q < x.size → r < s → box v (at + (q * s + r)) ≡ (covers (up_to x v) q && A r)
  box_at v q r h l = in_stretch_at at (x.size * s) (entry_in v) (q * s + r) (digits_lt h l) ∙ rw (digits_div q l, digits_mod q l)

  box_split : (v j : ℕ) → T (box v j) → (q r : ℕ) × (q < x.size) × (r < s) × (j ≡ at + (q * s + r)) × T (x.live q) × (q < v) × T (A r)
  box_split v j t =
      let y = in_stretch-entry at (x.size * s) (entry_in v) j t in
      let e = y.0 in
      let b = both (covers (up_to x v) (e / s)) _ y.2 in
      let l = covers-both (up_to x v) (e / s) b.0 in
      (e / s, e % s, first_lt x.size s e y.1, mod-lt e (some_width x.size s e y.1), y.3 ∙ ap (λ (w : ℕ). at + w) (sym (div-add-mod' e s)), l.0, l.1, b.1)

  module _ (v j : ℕ) (h : T (x.live v)) (l : v < x.size) where
    fresh : T (in_stretch (at + v * s) s A j) → (box (v + 1) j ≡ true) × (box v j ≡ false)
    fresh t =
        let y = in_stretch-entry (at + v * s) s A j t in
        let e : j ≡ at + (v * s + y.0) = omega (arith, y.3) in (
          rw (e, box_at (v + 1) v y.0 l y.1) (is_true _ (and (covers (up_to x (v + 1)) v) (A y.0) (covers_in (up_to x (v + 1)) v h (omega arith)) y.2)),
          rw (e, box_at v v y.0 l y.1) (is_false _ (λ z. omega (arith, covers-both (up_to x v) v (both (covers (up_to x v) v) _ z).0))),
        )

    stays : (T (in_stretch (at + v * s) s A j) → ⊥) → box (v + 1) j ≡ box v j
    stays out = same_test _ _ there back
      where
        there : T (box (v + 1) j) → T (box v j)
        there t =
            let y = box_split (v + 1) j t in
            let q = y.0 in
            let r = y.1 in
            let e : j ≡ at + (q * s + r) = y.4 in
            elim (ℕ_discrete q v) [
              | yes p ↦
                  let e' : j ≡ at + v * s + r = omega (arith, rw p at e) in
                  absurd (out (rw (e', in_stretch_at (at + v * s) s A r y.3) y.7))
              | no p ↦ rw (e, box_at v q r y.2 y.3) (and (covers (up_to x v) q) (A r) (covers_in (up_to x v) q y.5 (omega (arith, y.6))) y.7)
            ]

        back : T (box v j) → T (box (v + 1) j)
        back t =
            let y = box_split v j t in
            let q = y.0 in
            let r = y.1 in
            let e : j ≡ at + (q * s + r) = y.4 in
            rw (e, box_at (v + 1) q r y.2 y.3) (and (covers (up_to x (v + 1)) q) (A r) (covers_in (up_to x (v + 1)) q y.5 (omega (arith, y.6))) y.7)

  module _ (top : ℕ) (f : ℕ → ℕ) where
    abbrev least_up_to : ℕ → ℕ
    least_up_to v = least_to top (entry_in v) (λ e. f (at + e)) (x.size * s)

    least_none : (v : ℕ) → ((b : ℕ) → T (x.live b) → v ≤ b) → least_up_to v ≡ top
    least_none v w = omega (
      arith,
      least_to_cap top (entry_in v) (λ e. f (at + e)) (x.size * s),
      least_to_ge top top (entry_in v) (λ e. f (at + e)) (x.size * s) (omega arith)
          (λ e l t. let r = covers-both (up_to x v) (e / s) (both (covers (up_to x v) (e / s)) _ t).0 in absurd (omega (arith, w (e / s) r.0, r.1))),
    )

    module _ (v : ℕ) (h : T (x.live v)) (l : v < x.size) where
      abbrev least_at : ℕ
      least_at = least_to top A (λ r. f (at + v * s + r)) s

      at_one : (r : ℕ) → r < s → T (A r) → least_up_to (v + 1) ≤ f (at + v * s + r)
      at_one r m t =
          let e : at + (v * s + r) ≡ at + v * s + r = omega arith in
          rw e at (least_to_le top (entry_in (v + 1)) (λ e. f (at + e)) (x.size * s) (v * s + r) (digits_lt l m)
          (rw (digits_div v m, digits_mod v m) (and (covers (up_to x (v + 1)) v) (A r) (covers_in (up_to x (v + 1)) v h (omega arith)) t)))

      at_old : (e : ℕ) → e < x.size * s → T (entry_in v e) → least_up_to (v + 1) ≤ f (at + e)
      at_old e m t =
          let b = both (covers (up_to x v) (e / s)) _ t in
          let r = covers-both (up_to x v) (e / s) b.0 in
          least_to_le top (entry_in (v + 1)) (λ e. f (at + e)) (x.size * s) e m (and (covers (up_to x (v + 1)) (e / s)) (A (e % s)) (covers_in (up_to x (v + 1)) (e / s) r.0 (omega (arith, r.1))) b.1)

      at_new : (e : ℕ) → e < x.size * s → T (entry_in (v + 1) e) → min (least_up_to v) least_at ≤ f (at + e)
      at_new e m t =
          let b = both (covers (up_to x (v + 1)) (e / s)) _ t in
          let r = covers-both (up_to x (v + 1)) (e / s) b.0 in
          elim (ℕ_discrete (e / s) v) [
            | yes p ↦
                let q : e / s * s + e % s ≡ e = div-add-mod' e s in
                let q' : at + v * s + e % s ≡ at + e = omega (arith, rw p at q) in
                omega (arith, rw q' at (least_to_le top A (λ r. f (at + v * s + r)) s (e % s) (mod-lt e (some_width x.size s e m)) b.1))
            | no p ↦
                omega (
                  arith,
                  least_to_le top (entry_in v) (λ e. f (at + e)) (x.size * s) e m
                      (and (covers (up_to x v) (e / s)) (A (e % s)) (covers_in (up_to x v) (e / s) r.0 (omega (arith, r.1))) b.1),
                )
          ]

      least_more : least_up_to (v + 1) ≡ min (least_up_to v) least_at
      least_more =
          let c = least_to_cap top (entry_in (v + 1)) (λ e. f (at + e)) (x.size * s) in
          omega (
            arith,
            least_to_ge top (least_up_to (v + 1)) (entry_in v) (λ e. f (at + e)) (x.size * s) c at_old,
            least_to_ge top (least_up_to (v + 1)) A (λ r. f (at + v * s + r)) s c at_one,
            least_to_ge top (min (least_up_to v) least_at) (entry_in (v + 1)) (λ e. f (at + e)) (x.size * s) (omega (arith, least_to_cap top (entry_in v) (λ e. f (at + e)) (x.size * s))) at_new,
          )

-- one value more, of any live values
box_on_next : (xs : List Dim) (x : Dim) (at v : ℕ) (change f : ℕ → ℕ) → T (x.live v) → v < x.size
    → box_on (up_to x (v + 1) ∷ xs) at change f ≡ box_on xs (at + v * volume xs) change (box_on (up_to x v ∷ xs) at change f)
unfolding box_on
box_on_next xs x at v change f h l =
    fun_ext (λ j. changed_once change (f j) _ _ (in_stretch (at + v * volume xs) (volume xs) (in_box xs) j) (fresh at x (volume xs) (in_box xs) v j h l) (stays at x (volume xs) (in_box xs) v j h l))

box_least_next : (xs : List Dim) (x : Dim) (at v top : ℕ) (f : ℕ → ℕ) → T (x.live v) → v < x.size
    → box_least (up_to x (v + 1) ∷ xs) at top f ≡ min (box_least (up_to x v ∷ xs) at top f) (box_least xs (at + v * volume xs) top f)
unfolding box_least
box_least_next xs x at v top f h l = least_more at x (volume xs) (in_box xs) top f v h l

-- no value yet
pub box_on_none : (xs : List Dim) (at d from : ℕ) (change f : ℕ → ℕ) → box_on (range d from from ∷ xs) at change f ≡ f
unfolding box_on
box_on_none xs at d from change f =
    fun_ext (λ j. rw (is_false (box at (range d from from) (volume xs) (in_box xs) from j)
    (λ t. let y = box_split at (range d from from) (volume xs) (in_box xs) from j t in omega (arith, leb→le from y.0 y.5, y.6))))

pub box_least_none : (xs : List Dim) (at d from top : ℕ) (f : ℕ → ℕ) → box_least (range d from from ∷ xs) at top f ≡ top
unfolding box_least
box_least_none xs at d from top f = least_none at (range d from from) (volume xs) (in_box xs) top f from (λ b t. leb→le from b t)

-- a loop's turn
pub box_on_turn : (xs : List Dim) (at d from v w : ℕ) (change f g g' : ℕ → ℕ) → from ≤ v → v < d → w ≡ at + v * volume xs
    → g ≡ box_on (range d from v ∷ xs) at change f → g' ≡ box_on xs w change g → g' ≡ box_on (range d from (v + 1) ∷ xs) at change f
box_on_turn xs at d from v w change f g g' h l e inv ens = ens ∙ rw (e, inv) (sym (box_on_next xs (range d from v) at v change f (le→leb from v h) l))

pub box_least_turn : (xs : List Dim) (at d from v w top : ℕ) (f : ℕ → ℕ) (r x r' : ℕ) → from ≤ v → v < d → w ≡ at + v * volume xs
    → r ≡ box_least (range d from v ∷ xs) at top f → x ≡ box_least xs w top f → r' ≡ min r x → r' ≡ box_least (range d from (v + 1) ∷ xs) at top f
box_least_turn xs at d from v w top f r x r' h l e inv ens m = m ∙ rw (inv, ens, e) (sym (box_least_next xs (range d from v) at v top f (le→leb from v h) l))

-- one value only
pub box_on-value : (xs : List Dim) (at d a : ℕ) (change f : ℕ → ℕ) → a < d → box_on (range d a (a + 1) ∷ xs) at change f ≡ box_on xs (at + a * volume xs) change f
box_on-value xs at d a change f l =
    sym (box_on_turn xs at d a a (at + a * volume xs) change f f (box_on xs (at + a * volume xs) change f) (omega arith) l refl (sym (box_on_none xs at d a change f)) refl)

pub box_least_cap : (xs : List Dim) (at top : ℕ) (f : ℕ → ℕ) → box_least xs at top f ≤ top
unfolding box_least
box_least_cap xs at top f = least_to_cap top (in_box xs) (λ x. f (at + x)) (volume xs)

pub box_least-value : (xs : List Dim) (at d a top : ℕ) (f : ℕ → ℕ) → a < d → box_least (range d a (a + 1) ∷ xs) at top f ≡ box_least xs (at + a * volume xs) top f
box_least-value xs at d a top f l =
    sym (box_least_turn xs at d a a (at + a * volume xs) top f top (box_least xs (at + a * volume xs) top f) (box_least xs (at + a * volume xs) top f) (omega arith) l refl
    (sym (box_least_none xs at d a top f)) refl (omega (arith, box_least_cap xs (at + a * volume xs) top f)))

-- a missing dimension
pub box_on_unit : (xs : List Dim) (at : ℕ) (change f : ℕ → ℕ) → box_on (range 1 0 1 ∷ xs) at change f ≡ box_on xs at change f
box_on_unit xs at change f = let e : at + 0 * volume xs ≡ at = omega arith in box_on-value xs at 1 0 change f (omega arith) ∙ rw e

pub box_least_unit : (xs : List Dim) (at top : ℕ) (f : ℕ → ℕ) → box_least (range 1 0 1 ∷ xs) at top f ≡ box_least xs at top f
box_least_unit xs at top f = let e : at + 0 * volume xs ≡ at = omega arith in box_least-value xs at 1 0 top f (omega arith) ∙ rw e

-- one entry
pub box_on_one : (at : ℕ) (change : ℕ → ℕ) (t : List ℕ) → at < length t → cells (set t at (change (get_or t at 0))) ≡ box_on [] at change (cells t)
unfolding box_on
box_on_one at change t l = fun_ext (λ j. elim (ℕ_discrete j at) [
  | yes q ↦ rw (q, get_or-set_same t at (change (get_or t at 0)) 0 l, hits)
  | no q ↦ rw (get_or-set_other t at j (change (get_or t at 0)) 0 q, is_false (in_stretch at 1 (λ e. true) j) (λ t. omega (arith, in_stretch-range at 1 (λ e. true) j t)))
])
  where
    hits : in_stretch at 1 (λ e. true) at ≡ true
    hits = let e : at + 0 ≡ at = omega arith in rw e at (in_stretch_at at 1 (λ e. true) 0 (omega arith))

pub box_least_one : (at top : ℕ) (t : List ℕ) → box_least [] at top (cells t) ≡ min top (get_or t at 0)
unfolding box_least
box_least_one at top t = let e : at + 0 ≡ at = omega arith in rw e

-- the last dimension's turn
pub box_least_step : (at d from v top : ℕ) (t : List ℕ) (r r' : ℕ) → from ≤ v → v < d → r ≡ box_least (range d from v ∷ []) at top (cells t) → r' ≡ min r (get_or t (at + v) 0)
    → r' ≡ box_least (range d from (v + 1) ∷ []) at top (cells t)
box_least_step at d from v top t r r' h l inv m =
    let e : at + v * 1 ≡ at + v = omega arith in
    let c : r ≤ top = rw inv (box_least_cap (range d from v ∷ []) at top (cells t)) in
    box_least_turn [] at d from v (at + v) top (cells t) r _ r' h l (sym e) inv (sym (box_least_one (at + v) top t)) (omega arith)

-- the box of a value lies in the whole
pub box_fits : (at d s v n : ℕ) → v < d → at + d * s ≤ n → at + v * s + s ≤ n
box_fits at d s v n l h = omega (arith, suc-mul v s, mul-le-mul_right s l)

-- what every loop over a box asks
pub ruleset loops = (box_on_none, box_least_none, box_fits)

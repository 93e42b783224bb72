-- Where a plan broke: the running sum as the code adds it up, and that the part which is named is the one that the document means. Assumes nothing.
use Rattle.std.proofs.Common.{ℕ, zero, suc, ◌+◌, ◌-◌, ◌≤◌, ◌<◌, ◌≡◌, refl, ap, ◌∙◌, subst, Bool, true, false, cond, arith, leb, ltb, ltb-true, ltb-false, lt-ltb, le-ltb, le-leb}
use Rattle.std.proofs.Math.Decide.{dec_le}
use Rattle.std.proofs.lemmas.Bool.{lt-leb}
use Rattle.costs.specs.Cost.{plus}
use Rattle.costs.specs.Range.{first_to}
use Rattle.costs.specs.Net.{Net, Costs, touched, running_sum, price}
use Rattle.costs.proofs.CostLaws.{plus_to_cap}
use Rattle.costs.proofs.RangeLaws.{sum_to_mono, first_to_none, first_to_is, first_to_below, first_to_at, first_to_some}
use Rattle.costs.proofs.TestLaws.{by_leb, not_so}
use Rattle.prices.specs.declared.breaks.Break.{Break}
use Rattle.prices.specs.declared.breaks.Break.TheVariants.{Nowhere, Constant, Unary, Function}
use Rattle.prices.specs.declared.sums.Sum.{Sum}
use Rattle.prices.specs.Breaks.{part_after, broke_by, broke_at, Reaches, Breaks}
use Rattle.prices.specs.Ties.Sums.{named_at, begun_with, added_to, sum_after}

module _ (n : Net) (c : Costs) (p : ℕ → ℕ) where
  abbrev full : ℕ → Bool
  full r = leb n.top (running_sum n c p r)

  abbrev paid : ℕ → ℕ
  paid s = c.at (touched n p s)

  running_mono : (r s : ℕ) → r ≤ s → running_sum n c p r ≤ running_sum n c p s
  running_mono r s l = omega (arith, plus_to_cap n.top c.constant r paid, plus_to_cap n.top c.constant s paid, sum_to_mono paid r s l)

  running_most : (s : ℕ) → running_sum n c p s ≤ n.top
  running_most s = omega (arith, plus_to_cap n.top c.constant s paid)

  -- a running sum below k: none before it has reached k either
  none_yet : (s : ℕ) → running_sum n c p s < n.top → first_to (suc s) full ≡ suc s
  none_yet s l = first_to_none (suc s) full (λ r m. lt-leb n.top (running_sum n c p r) (omega (arith, running_mono r s (omega arith))))

  -- the sum as the code adds it up: the constant, then part by part
  pub sum_begun : begun_with n.top c.constant ≡ sum_after n c p 0
  unfolding broke_by
  sum_begun = ap (λ (b : Break). record { price = plus n.top 0 c.constant; broke = b }) (go (full 0))
    where
      go : (b : Bool) → cond b Constant Nowhere ≡ cond (leb (cond b 0 1) 0) (part_after n.vars (cond b 0 1)) Nowhere
      go true = refl
      go false = refl

  broke_more : (s : ℕ) → cond (full s) (broke_by n c p s) (named_at n.top (running_sum n c p (suc s)) (part_after n.vars (suc s))) ≡ broke_by n c p (suc s)
  unfolding broke_by
  broke_more s = elim (dec_le n.top (running_sum n c p s)) [
    | yes l ↦ ap choose (le-leb n.top (running_sum n c p s) l) ∙ before (first_to (suc s) full) (first_to_some (suc s) full s (omega arith) ((by_leb n.top (running_sum n c p s)).finds l))
    | no l ↦ let below : running_sum n c p s < n.top = omega arith in ap choose (lt-leb n.top (running_sum n c p s) below) ∙ now (full (suc s)) (first_to (suc s) full) (none_yet s below)
  ]
    where
      choose : Bool → Break
      choose b = cond b (broke_by n c p s) (named_at n.top (running_sum n c p (suc s)) (part_after n.vars (suc s)))

      -- by the first among s + 1 sums, `first`, the first among one more
      named : ℕ → Bool → Break
      named first b = let r = cond (ltb first (suc s)) first (cond b (suc s) (suc (suc s))) in cond (leb r (suc s)) (part_after n.vars r) Nowhere

      before : (first : ℕ) → first ≤ s → cond (leb first s) (part_after n.vars first) Nowhere ≡ named first (full (suc s))
      before first l = rw (lt-ltb first (suc s) (omega arith), le-leb first s l, le-leb first (suc s) (omega arith))

      now : (b : Bool) (first : ℕ) → first ≡ suc s → cond b (part_after n.vars (suc s)) Nowhere ≡ named first b
      now true first e = rw (e, le-ltb (suc s) (suc s) (omega arith), le-leb (suc s) (suc s) (omega arith))
      now false first e = rw (e, le-ltb (suc s) (suc s) (omega arith), lt-leb (suc (suc s)) (suc s) (omega arith))

  sum_more : (s : ℕ) (x r : Sum) (cost : ℕ) (part : Break) → x ≡ sum_after n c p s → cost ≡ c.at (touched n p s) → part ≡ part_after n.vars (suc s) → r ≡ added_to n.top x cost part → r ≡ sum_after n c p (suc s)
  sum_more s x r cost part so_far touches is e = e ∙ rw (so_far, touches, is) (ap (λ (b : Break). record { price = running_sum n c p (suc s); broke = b }) (broke_more s))

  pub sum_unary : (v : ℕ) (x r : Sum) (cost : ℕ) → v < n.vars → x ≡ sum_after n c p v → cost ≡ c.at (touched n p v) → r ≡ added_to n.top x cost (Unary v) → r ≡ sum_after n c p (v + 1)
  sum_unary v x r cost l so_far touches e =
      let next : suc v ≡ v + 1 = omega arith in
      sum_more v x r cost (Unary v) so_far touches (rw (lt-ltb v n.vars l)) e ∙ ap (sum_after n c p) next

  pub sum-function : (f : ℕ) (x r : Sum) (cost : ℕ) → x ≡ sum_after n c p (n.vars + f) → cost ≡ c.at (touched n p (n.vars + f)) → r ≡ added_to n.top x cost (Function f) → r ≡ sum_after n c p (n.vars + (f + 1))
  sum-function f x r cost so_far touches e =
      let next : suc (n.vars + f) ≡ n.vars + (f + 1) = omega arith in
      let same : n.vars + f - n.vars ≡ f = omega arith in
      sum_more (n.vars + f) x r cost (Function f) so_far touches (rw (le-ltb (n.vars + f) n.vars (omega arith), same)) e ∙ ap (sum_after n c p) next

  -- the running sum reaches k where its first test says so
  first_reaches : first_to (suc n.parts) full ≤ n.parts → Reaches n c p (first_to (suc n.parts) full)
  first_reaches l =
      let first = first_to (suc n.parts) full in record {
        within = l;
        reached = omega (arith, running_most first, (by_leb n.top (running_sum n c p first)).says (first_to_at (suc n.parts) full (omega arith)));
        below = λ r m. elim (dec_le n.top (running_sum n c p r)) [ yes h ↦ absurd (not_so (first_to_below (suc n.parts) full r m) ((by_leb n.top (running_sum n c p r)).finds h)) | no h ↦ omega arith ];
      }

  reaches_first : (s : ℕ) → Reaches n c p s → first_to (suc n.parts) full ≡ s
  reaches_first s h = first_to_is (suc n.parts) s full (omega (arith, h.within)) (λ r m. lt-leb n.top (running_sum n c p r) (h.below r m)) (le-leb n.top (running_sum n c p s) (omega (arith, h.reached)))

  part_breaks : (s : ℕ) → Reaches n c p s → Breaks n c p (part_after n.vars s)
  part_breaks zero h = h
  part_breaks (suc s) h = go (ltb s n.vars) (ltb-true s n.vars) (ltb-false s n.vars)
    where
      go : (b : Bool) → (b ≡ true → s < n.vars) → (b ≡ false → n.vars ≤ s) → Breaks n c p (cond b (Unary s) (Function (s - n.vars)))
      go true f g = (f refl, h)
      go false f g = let e : n.vars + (s - n.vars) ≡ s = omega (arith, g refl) in rw e h

  -- the part that is named is where the plan breaks
  pub broke_breaks : Breaks n c p (broke_at n c p)
  unfolding broke_by price
  broke_breaks =
      let first = first_to (suc n.parts) full in
      elim (dec_le first n.parts) [
        | yes l ↦ rw (le-leb first n.parts l) (part_breaks first (first_reaches l))
        | no l ↦ rw (lt-leb first n.parts (omega arith)) (elim (dec_le n.top (running_sum n c p n.parts)) [
          | yes h ↦ absurd (l (first_to_some (suc n.parts) full n.parts (omega arith) ((by_leb n.top (running_sum n c p n.parts)).finds h)))
          | no h ↦ omega arith
        ])
      ]

  reaches_broke : (s : ℕ) (b : Break) → Reaches n c p s → part_after n.vars s ≡ b → broke_at n c p ≡ b
  unfolding broke_by
  reaches_broke s b h e = rw (reaches_first s h, le-leb s n.parts h.within) e

  -- and a plan breaks nowhere else
  pub breaks_broke : (b : Break) → Breaks n c p b → broke_at n c p ≡ b
  unfolding broke_by price
  breaks_broke Nowhere l = rw (none_yet n.parts l, lt-leb (suc n.parts) n.parts (omega arith))
  breaks_broke Constant h = reaches_broke 0 Constant h refl
  breaks_broke (Unary v) h = reaches_broke (suc v) (Unary v) h.1 (rw (lt-ltb v n.vars h.0))
  breaks_broke (Function f) h =
      let same : n.vars + f - n.vars ≡ f = omega arith in
      reaches_broke (suc (n.vars + f)) (Function f) h (rw (le-ltb (n.vars + f) n.vars (omega arith), same))

  -- a part is named exactly when the price is k
  pub named_full : (broke_at n c p ≡ Nowhere → ⊥) → price n c p ≡ n.top
  unfolding price
  named_full d = elim (dec_le n.top (price n c p)) [ yes l ↦ omega (arith, running_most n.parts) | no l ↦ absurd (d (breaks_broke Nowhere (omega arith))) ]

  pub full_named : price n c p ≡ n.top → broke_at n c p ≡ Nowhere → ⊥
  full_named is-top e = let l : price n c p < n.top = subst (λ (b : Break). Breaks n c p b) e broke_breaks in omega arith

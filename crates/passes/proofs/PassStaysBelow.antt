-- The pass neither looks at nor changes table entries past E: done beside other entries there, it does the same. Assumes nothing.
use Rattle.std.proofs.Common.{ℕ, zero, suc, ◌+◌, ◌-◌, ◌≤◌, ◌<◌, ◌≡◌, refl, ap, ◌∙◌, Bool, true, false, cond, List, [], ◌∷◌, ◌++◌, arith, ltb, lt→ltb, get_or, ltb-false}
use Rattle.costs.specs.Cost.{plus, minus}
use Rattle.costs.specs.Net.{Net, Costs, Sound, All, tuples, start, entries}
use Rattle.costs.proofs.TestLaws.{is_true}
use Rattle.costs.proofs.NetLaws.{All-map, stretch_below}
use Rattle.boxes.specs.Places.{on}
use Rattle.boxes.proofs.LoopLaws.{each_related, least_to-same}
use Rattle.boxes.proofs.PlaceLaws.{costs-same}
use Rattle.shifts.specs.declared.moves.Move.{Move}
use Rattle.shifts.specs.declared.moves.Move.TheVariants.{Project, Raise}
use Rattle.shifts.specs.Nodes.{fixing, live_entry, hit, least}
use Rattle.shifts.specs.Moves.{shifted}
use Rattle.shifts.proofs.NodeLaws.{hit-past}
use Rattle.passes.specs.Passing.{Work, shift_by, at_value, at_scope, at_variable, pass}
use Rattle.passes.specs.Doors.{worked_below}

-- g below E, and the list t past it
abbrev beside : ℕ → (ℕ → ℕ) → List ℕ → ℕ → ℕ
beside E g t j = cond (ltb j E) (g j) (get_or t j 0)

on_beside : (E : ℕ) (A : ℕ → Bool) (change g : ℕ → ℕ) (t : List ℕ) → ((j : ℕ) → E ≤ j → A j ≡ false) → (j : ℕ) → on A change (beside E g t) j ≡ beside E (on A change g) t j
on_beside E A change g t h j = go (ltb j E) (λ q. h j (ltb-false j E q))
  where
    go : (b : Bool) → (b ≡ false → A j ≡ false) → cond (A j) (change (cond b (g j) (get_or t j 0))) (cond b (g j) (get_or t j 0)) ≡ cond b (cond (A j) (change (g j)) (g j)) (get_or t j 0)
    go true f = refl
    go false f = rw (f refl)

module _ (n : Net) (live : ℕ → ℕ → Bool) (t : List ℕ) where
  abbrev with : Costs → Costs
  with c = worked_below (entries n) c t

  least_beside : (l : ℕ → ℕ → Bool) (c : Costs) (s : ℕ) → s < n.parts → least n l (with c).at s ≡ least n l c.at s
  unfolding least
  least_beside l c s h =
      least_to-same n.top (live_entry n.size l (n.scope s)) _ _ (tuples n.size (n.scope s))
      (λ e m. rw (is_true (ltb (start n s + e) (entries n)) (lt→ltb (start n s + e) (entries n) (omega (arith, stretch_below n s h)))))

  project_beside : (f i a m : ℕ) → n.vars + f < n.parts → i < n.parts → (c : Costs) → shifted n live (Project f i a m) (with c) ≡ with (shifted n live (Project f i a m) c)
  unfolding shifted
  project_beside f i a m hf hi c =
      costs-same _ _ refl (λ j.
      ap (λ (x : ℕ). cond (hit n (fixing live i a) i j) (plus n.top x m) x) (on_beside (entries n) (hit n (fixing live i a) (n.vars + f)) (λ x. minus n.top x m) c.at t (λ e l. hit-past n (fixing live i a) (n.vars + f) e hf l) j)
      ∙ on_beside (entries n) (hit n (fixing live i a) i) (λ x. plus n.top x m) (on (hit n (fixing live i a) (n.vars + f)) (λ x. minus n.top x m) c.at) t (λ e l. hit-past n (fixing live i a) i e hi l) j)

  raise_beside : (i m : ℕ) → i < n.parts → (c : Costs) → shifted n live (Raise i m) (with c) ≡ with (shifted n live (Raise i m) c)
  unfolding shifted
  raise_beside i m hi c = costs-same _ _ refl (on_beside (entries n) (hit n live i) (λ x. minus n.top x m) c.at t (λ e l. hit-past n live i e hi l))

  -- two runs of the pass, one beside other entries
  abbrev Beside : Work → Work → Type 0
  Beside w v = (w.costs ≡ with v.costs) × (w.shifts ≡ v.shifts)

  by_beside : (x : ℕ → Move) (m k : ℕ) (w v : Work) → m ≡ k → ((c : Costs) → shifted n live (x k) (with c) ≡ with (shifted n live (x k) c)) → Beside w v → Beside (shift_by n live x m w) (shift_by n live x k v)
  by_beside x m k w v e h b = rw e (go k h)
    where
      go : (k : ℕ) → ((c : Costs) → shifted n live (x k) (with c) ≡ with (shifted n live (x k) c)) → Beside (shift_by n live x k w) (shift_by n live x k v)
      go zero h = b
      go (suc k) h = (rw b.0 (h v.costs), ap (λ (xs : List Move). xs ++ (x (suc k) ∷ [])) b.1)

  choose_beside : (b : Bool) (w w' v v' : Work) → Beside w v → Beside w' v' → Beside (cond b w w') (cond b v v')
  choose_beside true w w' v v' x y = x
  choose_beside false w w' v v' x y = y

  value_beside : (f i : ℕ) → n.vars + f < n.parts → i < n.parts → (a : ℕ) (w v : Work) → Beside w v → Beside (at_value n live f i a w) (at_value n live f i a v)
  value_beside f i hf hi a w v b =
      choose_beside (live i a) _ w _ v
      (by_beside (Project f i a) (least n (fixing live i a) w.costs.at (n.vars + f)) (least n (fixing live i a) v.costs.at (n.vars + f)) w v (rw b.0 (least_beside (fixing live i a) v.costs (n.vars + f) hf)) (project_beside f i a _ hf hi) b)
      b

  scope_beside : (f : ℕ) → n.vars + f < n.parts → (is : List ℕ) → All (λ i. i < n.parts) is → (w v : Work) → Beside w v → Beside (at_scope n live f is w) (at_scope n live f is v)
  scope_beside f hf [] h w v b = b
  scope_beside f hf (i ∷ is) h w v b = scope_beside f hf is h.1 _ _ (each_related Beside (at_value n live f i) (n.size i) (λ a l. value_beside f i hf h.0 a) w v b)

  variable_beside : (i : ℕ) → i < n.parts → (w v : Work) → Beside w v → Beside (at_variable n live i w) (at_variable n live i v)
  variable_beside i hi w v b = by_beside (Raise i) (least n live w.costs.at i) (least n live v.costs.at i) w v (rw b.0 (least_beside live v.costs i hi)) (raise_beside i _ hi) b

  pass_beside : Sound n → (c : Costs) → Beside (pass n live (worked_below (entries n) c t)) (pass n live c)
  unfolding pass
  pass_beside good c =
      each_related Beside (at_variable n live) n.vars (λ i l. variable_beside i (omega (arith, good.enough))) _ _
      (each_related Beside (λ f. at_scope n live f (n.scope (n.vars + f))) (n.parts - n.vars)
      (λ f l. scope_beside f (omega arith) (n.scope (n.vars + f)) (All-map (λ i m. omega (arith, good.enough)) (n.scope (n.vars + f)) (good.known (n.vars + f) (omega arith))))
      (record { costs = with c; shifts = [] }) (record { costs = c; shifts = [] }) (refl, refl))

  pub pass_stays_below : Sound n → (c : Costs) → (pass n live (worked_below (entries n) c t)).costs ≡ worked_below (entries n) (pass n live c).costs t
  pass_stays_below good c = (pass_beside good c).0

  pub pass_shifts_below : Sound n → (c : Costs) → (pass n live (worked_below (entries n) c t)).shifts ≡ (pass n live c).shifts
  pass_shifts_below good c = (pass_beside good c).1

-- The pass's shifts are each legal in their turn and lead to its costs; its constant stays at most k. Assumes nothing.
use Rattle.std.proofs.Common.{ℕ, zero, suc, ◌+◌, ◌-◌, ◌≤◌, ◌<◌, ◌≡◌, refl, Bool, true, false, cond, List, [], ◌∷◌, ◌++◌, arith, T}
use Rattle.costs.specs.Net.{Net, Costs, Sound, All, price}
use Rattle.costs.specs.Tests.{among}
use Rattle.boxes.proofs.LoopLaws.{each_keeps}
use Rattle.shifts.specs.declared.moves.Move.{Move}
use Rattle.shifts.specs.declared.moves.Move.TheVariants.{Project, Raise}
use Rattle.shifts.specs.Nodes.{fixing, Fits, least}
use Rattle.shifts.specs.Moves.{shifted, Legal, ran, LegalAll}
use Rattle.shifts.proofs.NodeLaws.{All-among, All-both, least-gives, least_cap}
use Rattle.shifts.proofs.ShiftsKeepPrices.{shifts_keep_prices, ran_constant, ran_most, ran_constant_below}
use Rattle.passes.specs.Passing.{Work, shift_by, at_value, at_scope, at_variable, pass, Led}

-- what holds of either outcome of a test holds of its choice
pub choose : (P : Work → Type 0) (b : Bool) (x y : Work) → (T b → P x) → P y → P (cond b x y)
choose P true x y f g = f tt
choose P false x y f g = g

-- the variables of a function's scope are variables, and in its scope
pub scope_members : (n : Net) → Sound n → (s : ℕ) → s < n.parts → All (λ i. (i < n.vars) × T (among i (n.scope s))) (n.scope s)
scope_members n good s l = All-both (λ i. i < n.vars) (λ i. T (among i (n.scope s))) (n.scope s) (good.known s l) (All-among (n.scope s))

module _ (n : Net) (live : ℕ → ℕ → Bool) where
  legal_more : (c : Costs) (xs : List Move) (x : Move) → LegalAll n live c xs → Legal n live (ran n live c xs) x → LegalAll n live c (xs ++ (x ∷ []))
  legal_more c [] x h l = (l, tt)
  legal_more c (y ∷ xs) x h l = (h.0, legal_more (shifted n live y c) xs x h.1 l)

  ran_more : (c : Costs) (xs : List Move) (x : Move) → ran n live c (xs ++ (x ∷ [])) ≡ shifted n live x (ran n live c xs)
  ran_more c [] x = refl
  ran_more c (y ∷ xs) x = ran_more (shifted n live y c) xs x

  led_by : (c : Costs) (x : ℕ → Move) (m : ℕ) (w : Work) → Led n live c w → (1 ≤ m → Legal n live w.costs (x m)) → Led n live c (shift_by n live x m w)
  led_by c x zero w h l = h
  led_by c x (suc m) w h l = record {
    legal = legal_more c w.shifts (x (suc m)) h.legal (rw h.leads (l (omega arith)));
    leads = rw (ran_more, h.leads);
  }

module _ (n : Net) (good : Sound n) (live : ℕ → ℕ → Bool) (c : Costs) where
  led_value : (f i a : ℕ) → n.vars + f < n.parts → i < n.vars → T (among i (n.scope (n.vars + f))) → a < n.size i → (w : Work) → Led n live c w → Led n live c (at_value n live f i a w)
  unfolding Legal
  led_value f i a hf hi hs ha w h =
      choose (Led n live c) (live i a) _ w
      (λ t. led_by n live c (Project f i a) (least n (fixing live i a) w.costs.at (n.vars + f)) w h
      (λ some. (
        record { some = some; most = least_cap n (fixing live i a) w.costs.at (n.vars + f) },
        record { function = hf; variable = hi; scoped = hs; value = ha; lives = t },
        least-gives n (fixing live i a) w.costs.at (n.vars + f),
      )))
      h

  led_scope : (f : ℕ) → n.vars + f < n.parts → (is : List ℕ) → All (λ i. (i < n.vars) × T (among i (n.scope (n.vars + f)))) is → (w : Work) → Led n live c w → Led n live c (at_scope n live f is w)
  led_scope f hf [] a w h = h
  led_scope f hf (i ∷ is) a w h =
      led_scope f hf is a.1 _ (each_keeps (Led n live c) (at_value n live f i) (n.size i) (λ v l. led_value f i v hf a.0.0 a.0.1 l) w h)

  led_variable : (i : ℕ) → i < n.vars → (w : Work) → Led n live c w → Led n live c (at_variable n live i w)
  unfolding Legal
  led_variable i l w h =
      led_by n live c (Raise i) (least n live w.costs.at i) w h (λ some. (record { some = some; most = least_cap n live w.costs.at i }, l, least-gives n live w.costs.at i))

  -- the pass's shifts are legal, each in its turn, and lead to its costs
  pub pass_is_legal : Led n live c (pass n live c)
  unfolding pass
  pass_is_legal =
      each_keeps (Led n live c) (at_variable n live) n.vars led_variable _
      (each_keeps (Led n live c) (λ f. at_scope n live f (n.scope (n.vars + f))) (n.parts - n.vars)
      (λ f l. led_scope f (omega arith) (n.scope (n.vars + f)) (scope_members n good (n.vars + f) (omega arith)))
      (record { costs = c; shifts = [] }) (record { legal = tt; leads = refl }))

  -- so the constant stays at most k
  pub pass_constant : c.constant ≤ n.top → (pass n live c).costs.constant ≤ n.top
  pass_constant h = rw (← pass_is_legal.leads) (ran_constant n live c (pass n live c).shifts h)

  -- and so does each cost of the table
  pub pass_most : (j : ℕ) → c.at j ≤ n.top → (pass n live c).costs.at j ≤ n.top
  pass_most j h = rw (← pass_is_legal.leads) (ran_most n live c (pass n live c).shifts j h)

  -- it is at most the price of every plan that fits the node
  pub pass_constant_below : c.constant ≤ n.top → (p : ℕ → ℕ) → Fits n live p → (pass n live c).costs.constant ≤ price n c p
  pass_constant_below h p fits = rw (← pass_is_legal.leads) (ran_constant_below n good live c (pass n live c).shifts h pass_is_legal.legal p fits)

  -- and the worked costs price such a plan as the held ones do
  pub pass_keeps_prices : (p : ℕ → ℕ) → Fits n live p → price n (pass n live c).costs p ≡ price n c p
  pass_keeps_prices p fits = rw (← pass_is_legal.leads) (shifts_keep_prices n good live p fits c (pass n live c).shifts pass_is_legal.legal)

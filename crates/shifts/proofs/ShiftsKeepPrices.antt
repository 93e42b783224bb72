-- A legal shift at a node leaves the capped price of every plan that fits the node alone; so does any list of shifts, each legal when its turn comes;
-- and the constant that they lead to never exceeds such a price. Once for project and extend, and over any arity. Assumes nothing.
use Prim.Native.Nat.{ℕ, ◌+◌, ◌≤◌, ◌<◌, min}
use mathlib.Core.Path.{◌≡◌, refl, sym, ◌∙◌}
use mathlib.Core.Bool.{Bool, true, false, cond}
use mathlib.Core.Logic.{◌≢◌}
use mathlib.Core.List.{List, [], ◌∷◌}
use native.Mathlib.Omega.{arith}
use lib.Dec.{T}
use Rattle.costs.specs.Cost.{plus, minus}
use Rattle.costs.specs.Range.{sum_to}
use Rattle.costs.specs.Net.{Net, Costs, Sound, IsPlan, All, touched, price}
use Rattle.costs.specs.Tests.{among}
use Rattle.costs.proofs.TestLaws.{is_true}
use Rattle.costs.proofs.CostLaws.{minus_most, shift_cap}
use Rattle.costs.proofs.RangeLaws.{sum_to_point, sum_to_two}
use Rattle.costs.proofs.NetLaws.{All-map, price_capped}
use Rattle.boxes.specs.Places.{on, moved}
use Rattle.shifts.specs.declared.moves.Move.{Move}
use Rattle.shifts.specs.declared.moves.Move.TheVariants.{Project, Extend, Raise}
use Rattle.shifts.specs.Nodes.{fixing, hit, Fits}
use Rattle.shifts.specs.Moves.{shifted, Joins, Gives, Legal, ran, LegalAll}
use Rattle.shifts.proofs.NodeLaws.{live_plan, among_first, fixing_plan, live_plan_all, hit_own, hit_other}

module _ (n : Net) (good : Sound n) (p : ℕ → ℕ) (plan : IsPlan n p) (c : Costs) (m : ℕ) (live : ℕ → ℕ → Bool) where
  -- what a plan touches after part s gave m to part r
  pub at_giver : (s r : ℕ) → s < n.parts → s ≢ r
      → moved n.top (hit n live s) (hit n live r) m c.at (touched n p s) ≡ cond (live_plan live p (n.scope s)) (minus n.top (c.at (touched n p s)) m) (c.at (touched n p s))
  at_giver s r ls d = rw (hit_own n good p plan live s ls, hit_other n good p plan live s r ls d)

  pub at_taker : (s r : ℕ) → r < n.parts → s ≢ r
      → moved n.top (hit n live s) (hit n live r) m c.at (touched n p r) ≡ cond (live_plan live p (n.scope r)) (plus n.top (c.at (touched n p r)) m) (c.at (touched n p r))
  at_taker s r lr d = rw (hit_other n good p plan live r s lr (λ e. d (sym e)), hit_own n good p plan live r lr)

  pub at_rest : (s r x : ℕ) → x < n.parts → x ≢ s → x ≢ r → moved n.top (hit n live s) (hit n live r) m c.at (touched n p x) ≡ c.at (touched n p x)
  at_rest s r x l e e' = rw (hit_other n good p plan live x s l e, hit_other n good p plan live x r l e')

  -- part s gives m to part r, where the plan's tuples on both move or neither does
  move_price : (s r : ℕ) → s < n.parts → r < n.parts → s ≢ r → Gives n live c.at s m → live_plan live p (n.scope s) ≡ live_plan live p (n.scope r)
      → price n (record { constant = c.constant; at = moved n.top (hit n live s) (hit n live r) m c.at }) p ≡ price n c p
  move_price s r ls lr d gives same =
      rw (price_capped n (record { constant = c.constant; at = moved n.top (hit n live s) (hit n live r) m c.at }) p, price_capped n c p)
      (go (live_plan live p (n.scope s)) (at_giver s r ls d) (rw same (at_taker s r lr d)) given)
    where
      after : ℕ → ℕ
      after x = moved n.top (hit n live s) (hit n live r) m c.at (touched n p x)

      before : ℕ → ℕ
      before x = c.at (touched n p x)

      sums : (x : ℕ) × (sum_to n.parts before ≡ x + before s + before r) × (sum_to n.parts after ≡ x + after s + after r)
      sums = sum_to_two n.parts s r before after ls lr d (at_rest s r)

      given : T (live_plan live p (n.scope s)) → m ≤ before s
      given t = gives (touched n p s) (rw (hit_own n good p plan live s ls) t)

      go : (b : Bool) → after s ≡ cond b (minus n.top (before s) m) (before s) → after r ≡ cond b (plus n.top (before r) m) (before r) → (T b → m ≤ before s)
          → min n.top (c.constant + sum_to n.parts after) ≡ min n.top (c.constant + sum_to n.parts before)
      go true a b f = omega (arith, sums, shift_cap n.top (before s) (before r) m (c.constant + sums.0) (f tt))
      go false a b f = omega (arith, sums)

  -- part s gives m to the constant, where the plan's tuple there is live
  raise_price : (s : ℕ) → s < n.parts → Gives n live c.at s m → T (live_plan live p (n.scope s))
      → price n (record { constant = plus n.top c.constant m; at = on (hit n live s) (λ x. minus n.top x m) c.at }) p ≡ price n c p
  raise_price s ls gives t =
      rw (price_capped n (record { constant = plus n.top c.constant m; at = on (hit n live s) (λ x. minus n.top x m) c.at }) p, price_capped n c p)
      (omega (arith, sums, own, shift_cap n.top (before s) c.constant m sums.0 given))
    where
      after : ℕ → ℕ
      after x = on (hit n live s) (λ x. minus n.top x m) c.at (touched n p x)

      before : ℕ → ℕ
      before x = c.at (touched n p x)

      sums : (x : ℕ) × (sum_to n.parts before ≡ x + before s) × (sum_to n.parts after ≡ x + after s)
      sums = sum_to_point n.parts s before after ls (λ x l e. rw (hit_other n good p plan live x s l e))

      hits : T (hit n live s (touched n p s))
      hits = rw (hit_own n good p plan live s ls) t

      own : after s ≡ minus n.top (before s) m
      own = rw (is_true (hit n live s (touched n p s)) hits)

      given : m ≤ before s
      given = gives (touched n p s) hits

-- a variable's own part has it in its scope
pub unary_scoped : (n : Net) → Sound n → (i : ℕ) → i < n.vars → T (among i (n.scope i))
unary_scoped n good i l = rw (good.unary i l) (among_first i [])

module _ (n : Net) (good : Sound n) (live : ℕ → ℕ → Bool) (p : ℕ → ℕ) (fits : Fits n live p) where
  pub lives_on : (s : ℕ) → s < n.parts → All (λ v. T (live v (p v))) (n.scope s)
  lives_on s l = All-map fits.lives (n.scope s) (good.known s l)

  -- the plan's tuples on f and on i move together
  together : (f i a : ℕ) → Joins n live f i a → live_plan (fixing live i a) p (n.scope (n.vars + f)) ≡ live_plan (fixing live i a) p (n.scope i)
  together f i a h =
      fixing_plan live p i a (n.scope (n.vars + f)) (lives_on (n.vars + f) h.function) h.scoped
      ∙ sym (fixing_plan live p i a (n.scope i) (lives_on i (omega (arith, h, good))) (unary_scoped n good i h.variable))

  -- a legal shift keeps the price of every plan that fits the node
  pub shift_keeps_price : (c : Costs) (x : Move) → Legal n live c x → price n (shifted n live x c) p ≡ price n c p
  unfolding shifted Legal
  shift_keeps_price c (Project f i a m) (amount, joined, gives) =
      move_price n good p fits.plan c m (fixing live i a) (n.vars + f) i joined.function (omega (arith, joined, good)) (omega (arith, joined)) gives (together f i a joined)
  shift_keeps_price c (Extend f i a m) (amount, joined, gives) =
      move_price n good p fits.plan c m (fixing live i a) i (n.vars + f) (omega (arith, joined, good)) joined.function (omega (arith, joined)) gives (sym (together f i a joined))
  shift_keeps_price c (Raise i m) (amount, l, gives) =
      let l' : i < n.parts = omega (arith, good.enough) in
      raise_price n good p fits.plan c m live i l' gives (live_plan_all live p (n.scope i) (lives_on i l'))

-- and so does any list of shifts, each legal when its turn comes
pub shifts_keep_prices : (n : Net) → Sound n → (live : ℕ → ℕ → Bool) (p : ℕ → ℕ) → Fits n live p → (c : Costs) (xs : List Move) → LegalAll n live c xs
    → price n (ran n live c xs) p ≡ price n c p
shifts_keep_prices n good live p fits c [] l = refl
shifts_keep_prices n good live p fits c (x ∷ xs) l = shifts_keep_prices n good live p fits (shifted n live x c) xs l.1 ∙ shift_keeps_price n good live p fits c x l.0

-- the constant stays at most k
pub shifted_constant : (n : Net) (live : ℕ → ℕ → Bool) (x : Move) (c : Costs) → c.constant ≤ n.top → (shifted n live x c).constant ≤ n.top
unfolding shifted
shifted_constant n live (Project f i a m) c h = h
shifted_constant n live (Extend f i a m) c h = h
shifted_constant n live (Raise i m) c h = omega arith

pub ran_constant : (n : Net) (live : ℕ → ℕ → Bool) (c : Costs) (xs : List Move) → c.constant ≤ n.top → (ran n live c xs).constant ≤ n.top
ran_constant n live c [] h = h
ran_constant n live c (x ∷ xs) h = ran_constant n live (shifted n live x c) xs (shifted_constant n live x c h)

-- and so does each cost of the table
on_most : (top : ℕ) (A : ℕ → Bool) (change t : ℕ → ℕ) (j : ℕ) → (t j ≤ top → change (t j) ≤ top) → t j ≤ top → on A change t j ≤ top
on_most top A change t j f h = go (A j)
  where
    go : (b : Bool) → cond b (change (t j)) (t j) ≤ top
    go true = f h
    go false = h

moved_most : (top : ℕ) (A B : ℕ → Bool) (m : ℕ) (t : ℕ → ℕ) (j : ℕ) → t j ≤ top → moved top A B m t j ≤ top
moved_most top A B m t j h = on_most top B (λ x. plus top x m) (on A (λ x. minus top x m) t) j (λ l. omega arith) (on_most top A (λ x. minus top x m) t j (minus_most top (t j) m) h)

pub shifted_most : (n : Net) (live : ℕ → ℕ → Bool) (x : Move) (c : Costs) (j : ℕ) → c.at j ≤ n.top → (shifted n live x c).at j ≤ n.top
unfolding shifted
shifted_most n live (Project f i a m) c j h = moved_most n.top (hit n (fixing live i a) (n.vars + f)) (hit n (fixing live i a) i) m c.at j h
shifted_most n live (Extend f i a m) c j h = moved_most n.top (hit n (fixing live i a) i) (hit n (fixing live i a) (n.vars + f)) m c.at j h
shifted_most n live (Raise i m) c j h = on_most n.top (hit n live i) (λ x. minus n.top x m) c.at j (minus_most n.top (c.at j) m) h

pub ran_most : (n : Net) (live : ℕ → ℕ → Bool) (c : Costs) (xs : List Move) (j : ℕ) → c.at j ≤ n.top → (ran n live c xs).at j ≤ n.top
ran_most n live c [] j h = h
ran_most n live c (x ∷ xs) j h = ran_most n live (shifted n live x c) xs j (shifted_most n live x c j h)

-- a constant is at most the price of each plan, and so is the constant that legal shifts lead to, of each plan that fits
pub constant_below : (n : Net) (c : Costs) (p : ℕ → ℕ) → c.constant ≤ n.top → c.constant ≤ price n c p
constant_below n c p l = omega (arith, price_capped n c p)

pub ran_constant_below : (n : Net) → Sound n → (live : ℕ → ℕ → Bool) (c : Costs) (xs : List Move) → c.constant ≤ n.top → LegalAll n live c xs → (p : ℕ → ℕ) → Fits n live p
    → (ran n live c xs).constant ≤ price n c p
ran_constant_below n good live c xs h l p fits =
    rw (← (shifts_keep_prices n good live p fits c xs l)) (constant_below n (ran n live c xs) p (ran_constant n live c xs h))

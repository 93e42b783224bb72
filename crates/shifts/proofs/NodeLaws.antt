-- Laws of nodes: which tuples are live, and where a plan touches the table. Over any arity. Assumes nothing.
use Prim.Native.Nat.{ℕ, zero, suc, ◌+◌, ◌≤◌, ◌<◌}
use mathlib.Core.Path.{◌≡◌, refl}
use mathlib.Core.Bool.{Bool, true, false, cond, ◌&&◌}
use mathlib.Core.Logic.{◌⊎◌, inl, inr, ⊎_elim, ◌≢◌}
use mathlib.Core.List.{List, [], ◌∷◌}
use native.Mathlib.Omega.{arith}
use native.Mathlib.Decide.{dec_lt}
use lib.Arith.{digits_div, digits_mod}
use lib.Dec.{T, leb, eqb, leb→le, le→leb, ltb→lt, eqb→eq, eqb_refl}
use lib.ListN.{get_or}
use Rattle.costs.specs.declared.networks.Network.{Network}
use Rattle.costs.specs.Net.{Net, Sound, IsPlan, All, tuples, entry, start, entries, touched}
use Rattle.costs.specs.Networks.{stands}
use Rattle.costs.specs.Tests.{among, Decides}
use Rattle.costs.proofs.TestLaws.{is_true, is_false, same_test, both, and, by_or, by_eqb, by_self, by_leb, by_all, by_map}
use Rattle.costs.proofs.RangeLaws.{sum_to_mono}
use Rattle.costs.proofs.NetLaws.{All-map, entry_lt, stretch_below}
use Rattle.boxes.proofs.PlaceLaws.{in_stretch-range, in_stretch_at, in_stretch-entry}
use Rattle.boxes.proofs.LoopLaws.{least_to_cap, least_to_le}
use Rattle.shifts.specs.declared.nodes.Node.{Node}
use Rattle.shifts.specs.Nodes.{live_by, live_at, node_good, IsNode, fixing, live_entry, hit, Fits, least}
use Rattle.shifts.specs.Moves.{Gives}

-- a member is the first or one of the rest
pub among_cases : (i v : ℕ) (vs : List ℕ) → T (among i (v ∷ vs)) → (i ≡ v) ⊎ T (among i vs)
among_cases i v vs t = (by_or (eqb i v) (among i vs) (by_eqb i v) (by_self (among i vs))).says t

pub among_first : (v : ℕ) (vs : List ℕ) → T (among v (v ∷ vs))
among_first v vs = (by_or (eqb v v) (among v vs) (by_eqb v v) (by_self (among v vs))).finds (inl refl)

pub among-rest : (i v : ℕ) (vs : List ℕ) → T (among i vs) → T (among i (v ∷ vs))
among-rest i v vs t = (by_or (eqb i v) (among i vs) (by_eqb i v) (by_self (among i vs))).finds (inr t)

-- each of a list stands in it
pub All-among : (vs : List ℕ) → All (λ i. T (among i vs)) vs
All-among [] = tt
All-among (v ∷ vs) = (among_first v vs, All-map (λ i. among-rest i v vs) vs (All-among vs))

pub All-both : (P Q : ℕ → Type 0) (vs : List ℕ) → All P vs → All Q vs → All (λ v. P v × Q v) vs
All-both P Q [] h k = tt
All-both P Q (v ∷ vs) h k = ((h.0, k.0), All-both P Q vs h.1 k.1)

-- a plan's tuple on a scope is live
abbrev pub live_plan : (ℕ → ℕ → Bool) → (ℕ → ℕ) → List ℕ → Bool
live_plan live p [] = true
live_plan live p (v ∷ vs) = live v (p v) && live_plan live p vs

-- the tuple of a plan's entry is the plan's
pub entry_live : (size p : ℕ → ℕ) (live : ℕ → ℕ → Bool) (vs : List ℕ) → All (λ v. p v < size v) vs → live_entry size live vs (entry size p vs) ≡ live_plan live p vs
entry_live size p live [] h = refl
entry_live size p live (v ∷ vs) h =
    rw (digits_div (p v) (entry_lt size p vs h.1), digits_mod (p v) (entry_lt size p vs h.1), entry_live size p live vs h.1)

pub live_plan_all : (live : ℕ → ℕ → Bool) (p : ℕ → ℕ) (vs : List ℕ) → All (λ v. T (live v (p v))) vs → T (live_plan live p vs)
live_plan_all live p [] h = tt
live_plan_all live p (v ∷ vs) h = and (live v (p v)) _ h.0 (live_plan_all live p vs h.1)

pub live_plan_one : (live : ℕ → ℕ → Bool) (p : ℕ → ℕ) (i : ℕ) (vs : List ℕ) → T (among i vs) → T (live_plan live p vs) → T (live i (p i))
live_plan_one live p i [] m t = absurd m
live_plan_one live p i (v ∷ vs) m t = ⊎_elim (λ e. rw e (both (live v (p v)) _ t).0) (λ r. live_plan_one live p i vs r (both (live v (p v)) _ t).1) (among_cases i v vs m)

-- the node that fixes i to a
pub fixing_here : (live : ℕ → ℕ → Bool) (i a b : ℕ) → fixing live i a i b ≡ eqb b a
unfolding fixing
fixing_here live i a b = rw (is_true (eqb i i) (eqb_refl i))

pub fixing_keeps : (live : ℕ → ℕ → Bool) (p : ℕ → ℕ) (i a v : ℕ) → T (eqb (p i) a) → T (live v (p v)) → T (fixing live i a v (p v))
unfolding fixing
fixing_keeps live p i a v e h = go (eqb v i) (eqb→eq v i)
  where
    go : (t : Bool) → (T t → v ≡ i) → T (cond t (eqb (p v) a) (live v (p v)))
    go true q = rw (q tt) e
    go false q = h

-- what is live there was live, where a was
pub fixing_live : (live : ℕ → ℕ → Bool) (i a v b : ℕ) → T (live i a) → T (fixing live i a v b) → T (live v b)
unfolding fixing
fixing_live live i a v b h t = go (eqb v i) (eqb→eq v i) t
  where
    go : (x : Bool) → (T x → v ≡ i) → T (cond x (eqb b a) (live v b)) → T (live v b)
    go true q t = rw (q tt, eqb→eq b a t) h
    go false q t = t

-- there a fitting plan's tuple on a scope that has i is live where i's value is a
pub fixing_plan : (live : ℕ → ℕ → Bool) (p : ℕ → ℕ) (i a : ℕ) (vs : List ℕ) → All (λ v. T (live v (p v))) vs → T (among i vs) → live_plan (fixing live i a) p vs ≡ eqb (p i) a
fixing_plan live p i a vs h m =
    same_test _ _
    (λ t. rw fixing_here at (live_plan_one (fixing live i a) p i vs m t))
    (λ t. live_plan_all (fixing live i a) p vs (All-map (λ v. fixing_keeps live p i a v t) vs h))

-- which plans fit it: those of the node above that give i the value a
pub fits_below : (n : Net) (live : ℕ → ℕ → Bool) (i a : ℕ) (p : ℕ → ℕ) → p i ≡ a → Fits n live p → Fits n (fixing live i a) p
fits_below n live i a p e f = record { plan = f.plan; lives = λ v l. fixing_keeps live p i a v (rw e (eqb_refl a)) (f.lives v l) }

pub fits_above : (n : Net) (live : ℕ → ℕ → Bool) (i a : ℕ) (p : ℕ → ℕ) → T (live i a) → Fits n (fixing live i a) p → Fits n live p
fits_above n live i a p h f = record { plan = f.plan; lives = λ v l. fixing_live live i a v (p v) h (f.lives v l) }

pub fits_value : (n : Net) (live : ℕ → ℕ → Bool) (i a : ℕ) (p : ℕ → ℕ) → i < n.vars → Fits n (fixing live i a) p → p i ≡ a
fits_value n live i a p l f = eqb→eq (p i) a (rw fixing_here at (f.lives i l))

module _ (n : Net) (good : Sound n) (p : ℕ → ℕ) (plan : IsPlan n p) where
  within : (s : ℕ) → s < n.parts → All (λ v. p v < n.size v) (n.scope s)
  within s l = All-map plan.range (n.scope s) (good.known s l)

  -- at its own part the touched place is live as the plan's tuple is
  pub hit_own : (live : ℕ → ℕ → Bool) (s : ℕ) → s < n.parts → hit n live s (touched n p s) ≡ live_plan live p (n.scope s)
  hit_own live s l = rw (in_stretch_at _ _ _ _ (entry_lt n.size p (n.scope s) (within s l))) (entry_live n.size p live (n.scope s) (within s l))

  -- and no other part has it
  pub hit_other : (live : ℕ → ℕ → Bool) (s r : ℕ) → s < n.parts → s ≢ r → hit n live r (touched n p s) ≡ false
  hit_other live s r l d = is_false _ (λ t. apart (in_stretch-range _ _ _ _ t) (dec_lt s r))
    where
      apart : (start n r ≤ touched n p s) × (touched n p s < start n r + tuples n.size (n.scope r)) → Dec (s < r) → ⊥
      apart h (yes q) = omega (arith, entry_lt n.size p (n.scope s) (within s l), sum_to_mono (λ x. tuples n.size (n.scope x)) (suc s) r q)
      apart h (no q) = omega (arith, sum_to_mono (λ x. tuples n.size (n.scope x)) (suc r) s (omega arith))

-- past E no tuple has its place
pub hit-past : (n : Net) (live : ℕ → ℕ → Bool) (s j : ℕ) → s < n.parts → entries n ≤ j → hit n live s j ≡ false
hit-past n live s j l h = is_false _ (λ t. omega (arith, in_stretch-range _ _ _ j t, stretch_below n s l))

-- a legal node: the test finds what the rule says of live values
by_byte : (x size : ℕ) → Decides (leb x size) ((b : ℕ) → T (live_by x size b) → b < size)
by_byte zero size = record { says = λ t b. ltb→lt b size; finds = λ h. le→leb 0 size (omega arith) }
by_byte (suc a) size = record {
  says = λ t b e. omega (arith, eqb→eq b a e, leb→le (suc a) size t);
  finds = λ h. le→leb (suc a) size (h a (eqb_refl a));
}

pub by_node : (net : Network) (node : Node) → Decides (node_good net.vars net.sizes node.fixed) (IsNode (stands net) (live_at net node))
unfolding node_good
by_node net node =
    by_map (λ h. record { below = λ v b l. h v l b }) (λ h v l b. h.below v b l)
    (by_all net.vars _ (λ v. (b : ℕ) → T (live_by (get_or node.fixed v 0) (get_or net.sizes v 0) b) → b < get_or net.sizes v 0) (λ v. by_byte (get_or node.fixed v 0) (get_or net.sizes v 0)))

pub by_bytes : (vars : ℕ) (sizes fx : List ℕ) → Decides (node_good vars sizes fx) ((v : ℕ) → v < vars → get_or fx v 0 ≤ get_or sizes v 0)
unfolding node_good
by_bytes vars sizes fx = by_all vars (λ v. leb (get_or fx v 0) (get_or sizes v 0)) (λ v. get_or fx v 0 ≤ get_or sizes v 0) (λ v. by_leb (get_or fx v 0) (get_or sizes v 0))

-- each live tuple costs at least the least
pub least-gives : (n : Net) (live : ℕ → ℕ → Bool) (t : ℕ → ℕ) (s : ℕ) → Gives n live t s (least n live t s)
unfolding least
least-gives n live t s j here =
    let h = in_stretch-entry _ _ _ j here in
    rw h.3 (least_to_le n.top (live_entry n.size live (n.scope s)) (λ e. t (start n s + e)) (tuples n.size (n.scope s)) h.0 h.1 h.2)

pub least_cap : (n : Net) (live : ℕ → ℕ → Bool) (t : ℕ → ℕ) (s : ℕ) → least n live t s ≤ n.top
unfolding least
least_cap n live t s = least_to_cap n.top (live_entry n.size live (n.scope s)) _ (tuples n.size (n.scope s))

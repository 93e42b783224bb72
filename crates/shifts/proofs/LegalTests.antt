-- The test of a shift finds what the rule says. Assumes nothing.
use Prim.Native.Nat.{ℕ, ◌+◌, ◌≤◌, ◌<◌}
use mathlib.Core.Bool.{Bool, true, false, not, ◌||◌}
use lib.Dec.{T}
use Rattle.costs.specs.Net.{Net, Costs, tuples, start}
use Rattle.costs.specs.Tests.{between, among, Decides}
use Rattle.costs.proofs.TestLaws.{by_leb, by_ltb, by_self, by_and, by_map, by_all}
use Rattle.boxes.proofs.PlaceLaws.{in_stretch-entry, in_stretch_at}
use Rattle.shifts.specs.declared.moves.Move.{Move}
use Rattle.shifts.specs.declared.moves.Move.TheVariants.{Project, Extend, Raise}
use Rattle.shifts.specs.Nodes.{fixing, live_entry}
use Rattle.shifts.specs.Moves.{IsAmount, Joins, Gives, Legal, joins, gives, is_legal}

-- a test only where another one holds
by_where : {A : Type 0} (a b : Bool) → Decides b A → Decides (not a || b) (T a → A)
by_where true b d = record { says = λ t u. d.says t; finds = λ h. d.finds (h tt) }
by_where false b d = record { says = λ t u. absurd u; finds = λ h. tt }

pub by_gives : (n : Net) (live : ℕ → ℕ → Bool) (t : ℕ → ℕ) (s m : ℕ) → Decides (gives n live t s m) (Gives n live t s m)
unfolding gives
by_gives n live t s m =
    by_map out back
    (by_all (tuples n.size (n.scope s)) _ (λ e. T (live_entry n.size live (n.scope s) e) → m ≤ t (start n s + e))
    (λ e. by_where (live_entry n.size live (n.scope s) e) _ (by_leb m (t (start n s + e)))))
  where
    out : ((e : ℕ) → e < tuples n.size (n.scope s) → T (live_entry n.size live (n.scope s) e) → m ≤ t (start n s + e)) → Gives n live t s m
    out h j here = let r = in_stretch-entry _ _ _ j here in rw r.3 (h r.0 r.1 r.2)

    back : Gives n live t s m → (e : ℕ) → e < tuples n.size (n.scope s) → T (live_entry n.size live (n.scope s) e) → m ≤ t (start n s + e)
    back h e x here = h (start n s + e) (rw (in_stretch_at (start n s) (tuples n.size (n.scope s)) (live_entry n.size live (n.scope s)) e x) here)

by_amount : (n : Net) (m : ℕ) → Decides (between 1 n.top m) (IsAmount n m)
by_amount n m = by_map (λ h. record { some = h.0; most = h.1 }) (λ h. (h.some, h.most)) (by_and (by_leb 1 m) (by_leb m n.top))

pub by_joins : (n : Net) (live : ℕ → ℕ → Bool) (f i a : ℕ) → Decides (joins n live f i a) (Joins n live f i a)
by_joins n live f i a =
    by_map
    (λ h. record { function = h.0; variable = h.1.0; scoped = h.1.1.0; value = h.1.1.1.0; lives = h.1.1.1.1 })
    (λ h. (h.function, (h.variable, (h.scoped, (h.value, h.lives)))))
    (by_and (by_ltb (n.vars + f) n.parts) (by_and (by_ltb i n.vars) (by_and (by_self (among i (n.scope (n.vars + f)))) (by_and (by_ltb a (n.size i)) (by_self (live i a))))))

pub by_legal : (n : Net) (live : ℕ → ℕ → Bool) (c : Costs) (x : Move) → Decides (is_legal n live c x) (Legal n live c x)
unfolding is_legal Legal
by_legal n live c (Project f i a m) =
    by_map (λ h. (h.0, h.1.0, h.1.1)) (λ h. (h.0, (h.1, h.2))) (by_and (by_amount n m) (by_and (by_joins n live f i a) (by_gives n (fixing live i a) c.at (n.vars + f) m)))
by_legal n live c (Extend f i a m) =
    by_map (λ h. (h.0, h.1.0, h.1.1)) (λ h. (h.0, (h.1, h.2))) (by_and (by_amount n m) (by_and (by_joins n live f i a) (by_gives n (fixing live i a) c.at i m)))
by_legal n live c (Raise i m) =
    by_map (λ h. (h.0, h.1.0, h.1.1)) (λ h. (h.0, (h.1, h.2))) (by_and (by_amount n m) (by_and (by_ltb i n.vars) (by_gives n live c.at i m)))

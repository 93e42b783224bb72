-- Gates behind one another, and what a search that comes to its end owes to its gate: nothing. Assumes nothing.
use Rattle.std.proofs.Common.{ℕ, zero, suc, ◌≡◌, refl, sym, Bool, true, false, cond, arith}
use Rattle.std.proofs.Math.Path.{fun_ext}
use Rattle.answers.specs.Answers.{Answer, Done}
use Rattle.boxes.specs.Loops.{each_to}
use Rattle.records.specs.Trees.{TreeNode, root, child}
use Rattle.engines.specs.Engines.{Look, closes, finds, opens, State, Engine, Gate, refuses, never, both, opened_at, ended_by, taken, each_live, visit, begin, searched}
use Rattle.engines.proofs.RightEngines.{refuses_none, looked, visit_enters, visit_going, each_going}

-- a gate that never refuses is as none
pub never_both : (g : Gate) → both never g ≡ g
never_both g = refl

pub both-never : (g : Gate) → both g never ≡ g
both-never g = fun_ext (λ s. go (refuses (g s)) (g s) refl)
  where
    go : (b : Bool) (a : Answer) → refuses a ≡ b → cond b a Done ≡ a
    go true a e = refl
    go false a e = sym (refuses_none a e)

-- where both let a node be entered, each does
pub both_admits : (g h : Gate) (s : State) → both g h s ≡ Done → (g s ≡ Done) × (h s ≡ Done)
both_admits g h s k = go (refuses (g s)) refl k
  where
    go : (b : Bool) → refuses (g s) ≡ b → cond b (g s) (h s) ≡ Done → (g s ≡ Done) × (h s ≡ Done)
    go true e k = absurd (let z : refuses Done ≡ true = rw k at e in let w : ◌≡◌ {A = ℕ} 0 1 = cc in omega arith)
    go false e k = (refuses_none (g s) e, k)

-- a search that comes to its end under a gate is the search under any gate that admits as much
module _ (e : Engine) (g h : Gate) (wider : (s : State) → g s ≡ Done → h s ≡ Done) where
  each_wider : (d : TreeNode) (i r : ℕ) → ((a : ℕ) (x : State) → (visit e g r (child d i a) x).ended ≡ Done → visit e h r (child d i a) x ≡ visit e g r (child d i a) x) → (c : ℕ) (s : State)
      → (each_to (λ a x. cond (d.live i a) (visit e g r (child d i a) x) x) c s).ended ≡ Done
      → each_to (λ a x. cond (d.live i a) (visit e h r (child d i a) x) x) c s ≡ each_to (λ a x. cond (d.live i a) (visit e g r (child d i a) x) x) c s
  each_wider d i r f zero s k = refl
  each_wider d i r f (suc c) s k =
      rw (each_wider d i r f c s (each_going (d.live i c) (visit e g r (child d i c) x) x (visit_going e g r (child d i c) x) k)) (one (d.live i c) k)
    where
      x : State
      x = each_to (λ a x. cond (d.live i a) (visit e g r (child d i a) x) x) c s

      one : (b : Bool) → (cond b (visit e g r (child d i c) x) x).ended ≡ Done → cond b (visit e h r (child d i c) x) x ≡ cond b (visit e g r (child d i c) x) x
      one true k = f c x k
      one false k = refl

  pub visit_wider : (r : ℕ) (d : TreeNode) (s : State) → (visit e g r d s).ended ≡ Done → visit e h r d s ≡ visit e g r d s
  unfolding visit
  visit_wider zero d s k = refl
  visit_wider (suc r) d s k =
      let going = visit_going e g (suc r) d s k in
      rw (visit_enters e g r d s going, visit_enters e h r d s going) (go (refuses (g s)) refl (λ d' i a x. visit_wider r (child d' i a) x) (rw (visit_enters e g r d s going) at k))
    where
      inside : (y : Look) → ((d' : TreeNode) (i a : ℕ) (x : State) → (visit e g r (child d' i a) x).ended ≡ Done → visit e h r (child d' i a) x ≡ visit e g r (child d' i a) x)
          → (taken y s (λ d' i. each_live e.net d' i (λ a. visit e g r (child d' i a)))).ended ≡ Done
          → taken y s (λ d' i. each_live e.net d' i (λ a. visit e h r (child d' i a))) ≡ taken y s (λ d' i. each_live e.net d' i (λ a. visit e g r (child d' i a)))
      inside (closes w) f k = refl
      inside (finds q c w) f k = refl
      inside (opens w d' i) f k = each_wider d' i r (f d' i) (e.net.size i) (opened_at w i s) k

      go : (b : Bool) → refuses (g s) ≡ b → ((d' : TreeNode) (i a : ℕ) (x : State) → (visit e g r (child d' i a) x).ended ≡ Done → visit e h r (child d' i a) x ≡ visit e g r (child d' i a) x)
          → (cond b (ended_by (g s) s) (looked e g r d s)).ended ≡ Done
          → cond (refuses (h s)) (ended_by (h s) s) (looked e h r d s) ≡ cond b (ended_by (g s) s) (looked e g r d s)
      go true q f k = absurd (let z : refuses Done ≡ true = rw k at q in let w : ◌≡◌ {A = ℕ} 0 1 = cc in omega arith)
      go false q f k = rw (wider s (refuses_none (g s) q)) (inside (e.look d s.best) f k)

  pub searched_wider : (searched e g).ended ≡ Done → searched e h ≡ searched e g
  searched_wider = visit_wider (suc e.net.vars) (root e.net) (begin e.net.top)

-- so it is the search with no gate, and a search that comes to its end under two gates is the search under each
pub finished_free : (e : Engine) (g : Gate) → (searched e g).ended ≡ Done → searched e never ≡ searched e g
finished_free e g = searched_wider e g never (λ s k. refl)

pub finished_both : (e : Engine) (g h : Gate) → (searched e (both g h)).ended ≡ Done → (searched e g ≡ searched e (both g h)) × (searched e h ≡ searched e (both g h))
finished_both e g h k = (searched_wider e (both g h) g (λ s a. (both_admits g h s a).0) k, searched_wider e (both g h) h (λ s a. (both_admits g h s a).1) k)

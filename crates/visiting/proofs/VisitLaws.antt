-- The search's state as the code has it. Assumes nothing.
use Rattle.std.proofs.Common.{Err, ℕ, zero, suc, ◌+◌, ◌-◌, ◌≤◌, ◌<◌, ◌≡◌, refl, sym, ap, ◌∙◌, Bool, true, false, cond, List, [], ◌∷◌, ◌++◌, map, arith, ltb, eqb, length, get_or, set, take, get_or-set_same, get_or-set_other, set-set, le-ltb, lt-ltb}
use Rattle.std.proofs.Math.Path.{fun_ext}
use Rattle.std.proofs.Math.Decide.{ℕ_discrete, dec_lt}
use Rattle.std.proofs.lemmas.List.{set-get_or}
use Rattle.answers.specs.Answers.{Done}
use Rattle.answers.specs.declared.Refusal.TheVariants.{OverBudget}
use Rattle.costs.specs.declared.networks.Network.{Network}
use Rattle.costs.specs.Range.{list_to}
use Rattle.costs.specs.Net.{Net, Costs, costs_of}
use Rattle.costs.specs.Networks.{stands}
use Rattle.boxes.specs.Loops.{each_to}
use Rattle.boxes.proofs.LoopLaws.{each_to_next}
use Rattle.shifts.specs.declared.moves.Move.{Move}
use Rattle.shifts.specs.Nodes.{live_by, live_in}
use Rattle.passes.specs.Passing.{pass}
use Rattle.records.specs.declared.steps.Step.TheVariants.{Shift, Close}
use Rattle.records.specs.Trees.{TreeNode, child}
use Rattle.bounds.specs.declared.noting.Noted.{Noted}
use Rattle.bounds.specs.Ties.Noting.{TellsPass}
use Rattle.engines.specs.declared.progress.Progress.{Progress}
use Rattle.engines.specs.Engines.{Look, State, refuses, closed_at, found_at, opened_at, ended_by, taken, each_live, visit, budget}
use Rattle.engines.specs.Ties.Progressing.{choices, Meets, ended_progress}
use Rattle.engines.proofs.RightEngines.{visit_stops, visit_enters}
use Rattle.engines.proofs.ProgressLaws.{over_ended, over_goes, meets_over}
use Rattle.visiting.specs.declared.Seen.{Seen}
use Rattle.visiting.specs.FirstSearch.{first_engine}
use Rattle.visiting.specs.Ties.Visiting.{prefix, Fixes, look_at, Looks, visited, Visits, Through}
use Rattle.visiting.proofs.PrefixNodes.{prefix_all, prefix_one, prefix_same, chosen, chosen_here, chosen_below, each_child, look_closes, look_finds, look_opens}

-- what is live at the node of the bytes
by_free : (x size b : ℕ) → x ≡ 0 → live_by x size b ≡ ltb b size
by_free x size b e = rw e

by_fixed : (x size b : ℕ) → 0 < x → live_by x size b ≡ eqb b (x - 1)
by_fixed zero size b h = absurd (omega arith)
by_fixed (suc a) size b h = let e : suc a - 1 ≡ a = omega arith in rw e

pub prefix_live : (network : Network) (k : ℕ) (node : List ℕ) → Fixes node network.sizes k → (prefix (stands network) (choices node) k).live ≡ live_in network.sizes node
prefix_live network k node h = fun_ext (λ v. fun_ext (λ b. at v b (dec_lt v k)))
  where
    at : (v b : ℕ) → Dec (v < k) → (prefix (stands network) (choices node) k).live v b ≡ live_in network.sizes node v b
    at v b (yes l) = prefix_one (stands network) (choices node) k v b l ∙ sym (by_fixed (get_or node v 0) (get_or network.sizes v 0) b (h.some v l))
    at v b (no l) = prefix_all (stands network) (choices node) k v b (omega arith) ∙ sym (by_free (get_or node v 0) (get_or network.sizes v 0) b (h.free v (omega arith)))

pub prefix-chosen : (n : Net) (node : List ℕ) (k a : ℕ) → k < length node → prefix n (choices (set node k (a + 1))) (k + 1) ≡ prefix n (chosen (choices node) k a) (suc k)
prefix-chosen n node k a l = let e : k + 1 ≡ suc k = omega arith in rw e (prefix_same n _ _ (suc k) (λ v m. elim (ℕ_discrete v k) [
  | yes q ↦ rw (q, get_or-set_same node k (a + 1) 0 l, chosen_here (choices node) k a) (omega arith)
  | no q ↦ rw (get_or-set_other node k v (a + 1) 0 q, chosen_below (choices node) k a v (omega arith))
]))

-- the budget's gate
gate_shut : (m : ℕ) (s : State) → m ≤ s.count → budget m s ≡ Err OverBudget
unfolding budget
gate_shut m s l = rw (le-ltb s.count m l)

gate_free : (m : ℕ) (s : State) → s.count < m → budget m s ≡ Done
unfolding budget
gate_free m s l = rw (lt-ltb s.count m l)

-- the code at a node of bytes that fix the variables below `depth`
module _ (network : Network) (held node : List ℕ) (asked : Bool) (depth : ℕ) where
  abbrev net : Net
  net = stands network

  abbrev costs : Costs
  costs = costs_of network.constant held

  abbrev at : TreeNode
  at = prefix net (choices node) depth

  -- the three ways of a look, from what the pass tells of the node's bytes
  module _ (fixes : Fixes node network.sizes depth) (within : depth ≤ network.vars) (x : Progress) (plan out : List ℕ) (notes : List Move) (bound : Noted) (tells : TellsPass asked (pass (stands network) (live_in network.sizes node) (costs_of network.constant held)) notes bound) where
    alive : at.live ≡ live_in network.sizes node
    alive = prefix_live network depth node fixes

    same_constant : (pass net at.live costs).costs.constant ≡ bound.constant
    same_constant = rw alive (sym tells.constant)

    pub looks_closed : (y : Progress) (out' : List ℕ) → x.best ≤ bound.constant
        → ((vars : ℕ) (values : List ℕ) (s : State) (xs : List Move) → (asked ≡ true → take bound.count notes ≡ xs) → Meets asked vars x values out s → Meets asked vars y values out' (closed_at (map Shift xs ++ (Close ∷ [])) s))
        → Looks network held asked node depth x plan out (record { progress = y; branched = false }) plan out'
    looks_closed y out' l f = record {
      closed = λ e s below m. rw (look_closes net costs (choices node) depth s.best within (omega (arith, m.best, same_constant)), alive) (f network.vars plan s _ tells.shifts m);
      unfinished = λ e. absurd (let z : ◌≡◌ {A = ℕ} 0 1 = cc in omega arith);
      opened = λ e. absurd (let z : ◌≡◌ {A = ℕ} 0 1 = cc in omega arith);
    }

    pub looks_found : (y : Progress) (plan' out' : List ℕ) → bound.constant < x.best → depth ≡ network.vars
        → ((s : State) (xs : List Move) → (asked ≡ true → take bound.count notes ≡ xs) → Meets asked network.vars x plan out s
        → Meets asked network.vars y plan' out' (found_at (list_to network.vars (choices node)) bound.constant (map Shift xs ++ (Close ∷ [])) s))
        → Looks network held asked node depth x plan out (record { progress = y; branched = false }) plan' out'
    looks_found y plan' out' l all f = record {
      closed = λ e s below m.
          rw (look_finds net costs (choices node) depth s.best within (omega (arith, m.best, same_constant)) all (λ v u. omega (arith, fixes.some v (omega arith), fixes.sized v (omega arith))), same_constant, alive)
          (f s _ tells.shifts m);
      unfinished = λ e. absurd (let z : ◌≡◌ {A = ℕ} 0 1 = cc in omega arith);
      opened = λ e. absurd (let z : ◌≡◌ {A = ℕ} 0 1 = cc in omega arith);
    }

    pub looks_opened : (y : Progress) (out' : List ℕ) → bound.constant < x.best → depth < network.vars
        → ((vars : ℕ) (values : List ℕ) (s : State) → Meets asked vars x values out s → Meets asked vars y values out' (opened_at [] depth s))
        → Looks network held asked node depth x plan out (record { progress = y; branched = true }) plan out'
    looks_opened y out' l m f = record {
      closed = λ e. absurd (let z : ◌≡◌ {A = ℕ} 0 1 = cc in omega arith);
      unfinished = λ e. m;
      opened = λ e s h. (look_opens net costs (choices node) depth s.best within (omega (arith, h.best, same_constant)) m, f network.vars plan s h);
    }

  -- the ways of a visit
  module _ (limit : ℕ) (x : Progress) (plan out : List ℕ) where
    pub visits_over : x.over ≡ true → Visits network held asked limit node depth x plan out x plan out
    visits_over e s m = rw (visit_stops (first_engine net costs) (budget limit) (suc (network.vars - depth)) at s (over_ended asked network.vars x plan out s m e)) m

    enters : (s : State) → s.ended ≡ Done → visited net costs limit node depth s
        ≡ cond (refuses (budget limit s)) (ended_by (budget limit s) s) (taken (look_at net costs node depth s) s (λ d' i. each_live net d' i (λ a. visit (first_engine net costs) (budget limit) (network.vars - depth) (child d' i a))))
    enters s goes = visit_enters (first_engine net costs) (budget limit) (network.vars - depth) at s goes

    pub visits_shut : (y : Progress) → x.over ≡ false → limit ≤ x.nodes → y ≡ ended_progress x → Visits network held asked limit node depth x plan out y plan out
    visits_shut y e l is s m =
        rw (enters s (over_goes asked network.vars x plan out s m e), gate_shut limit s (omega (arith, m.nodes)), is) (meets_over asked network.vars x plan out s m e)

    module _ (goes : x.over ≡ false) (few : x.nodes < limit) (r : Seen) (plan' out' : List ℕ) (looks : Looks network held asked node depth x plan out r plan' out') where
      looked : (s : State) → Meets asked network.vars x plan out s → visited net costs limit node depth s
          ≡ taken (look_at net costs node depth s) s (λ d' i. each_live net d' i (λ a. visit (first_engine net costs) (budget limit) (network.vars - depth) (child d' i a)))
      looked s m = enters s (over_goes asked network.vars x plan out s m goes) ∙ rw (gate_free limit s (omega (arith, m.nodes)))

      pub visits_closed : r.branched ≡ false → Visits network held asked limit node depth x plan out r.progress plan' out'
      visits_closed e s m = rw (looked s m) (looks.closed e s _ m)

      -- the children by value, each as a visit of the bytes with that value
      visited_opens : r.branched ≡ true → depth < length node → (s : State) → Meets asked network.vars x plan out s
          → visited net costs limit node depth s ≡ each_to (λ a. visited net costs limit (set node depth (a + 1)) (depth + 1)) (get_or network.sizes depth 0) (opened_at [] depth s)
      visited_opens e there s m =
          looked s m ∙ ap (λ (y : Look). taken y s (λ d' i. each_live net d' i (λ a. visit (first_engine net costs) (budget limit) (network.vars - depth) (child d' i a)))) (looks.opened e s m).0
          ∙ each_child (first_engine net costs) (budget limit) (network.vars - depth) (choices node) depth (opened_at [] depth s) ∙ each_same (get_or network.sizes depth 0) (opened_at [] depth s)
        where
          deeper : network.vars - depth ≡ suc (network.vars - (depth + 1))
          deeper = let l = looks.unfinished e in omega arith

          one : (c : ℕ) (y : State) → visit (first_engine net costs) (budget limit) (network.vars - depth) (prefix net (chosen (choices node) depth c) (suc depth)) y ≡ visited net costs limit (set node depth (c + 1)) (depth + 1) y
          one c y = rw (prefix-chosen net node depth c there, deeper)

          each_same : (c : ℕ) (y : State) → each_to (λ a. visit (first_engine net costs) (budget limit) (network.vars - depth) (prefix net (chosen (choices node) depth a) (suc depth))) c y
              ≡ each_to (λ a. visited net costs limit (set node depth (a + 1)) (depth + 1)) c y
          each_same zero y = refl
          each_same (suc c) y = ap (visit (first_engine net costs) (budget limit) (network.vars - depth) (prefix net (chosen (choices node) depth c) (suc depth))) (each_same c y) ∙ one c (each_to (λ a. visited net costs limit (set node depth (a + 1)) (depth + 1)) c y)

      pub visits_opened : r.branched ≡ true → depth < length node → (a : ℕ) (y : Progress) (plan'' out'' : List ℕ) → a ≡ get_or network.sizes depth 0
          → Through network held asked limit node depth a r.progress plan' out' y plan'' out'' → Visits network held asked limit node depth x plan out y plan'' out''
      visits_opened e there a y plan'' out'' all f s m = rw (visited_opens e there s m, ← all) (f (opened_at [] depth s) (looks.opened e s m).1)

-- the loop over the values
module _ (network : Network) (held node : List ℕ) (asked : Bool) (limit depth : ℕ) (x : Progress) (plan out : List ℕ) where
  pub through_more : (a : ℕ) (y z : Progress) (plan' out' plan'' out'' : List ℕ) → Through network held asked limit node depth a x plan out y plan' out'
      → Visits network held asked limit (set node depth (a + 1)) (depth + 1) y plan' out' z plan'' out'' → Through network held asked limit node depth (a + 1) x plan out z plan'' out''
  through_more a y z plan' out' plan'' out'' f g s m = rw (each_to_next (λ a. visited (stands network) (costs_of network.constant held) limit (set node depth (a + 1)) (depth + 1)) a s) (g _ (f s m))

-- a value is fixed in place of the one before it, and the variable is released at the end
pub fixed_again : (node now next : List ℕ) (k a : ℕ) → now ≡ set node k a → next ≡ set now k (a + 1) → next ≡ set node k (a + 1)
fixed_again node now next k a e is = is ∙ ap (λ (l : List ℕ). set l k (a + 1)) e ∙ set-set node k a (a + 1)

pub released : (node now next : List ℕ) (k a : ℕ) → get_or node k 0 ≡ 0 → now ≡ set node k a → next ≡ set now k 0 → next ≡ node
released node now next k a free e is = is ∙ ap (λ (l : List ℕ). set l k 0) e ∙ set-set node k a 0 ∙ (rw free at (set-get_or node k 0))

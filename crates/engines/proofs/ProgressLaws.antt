-- The code's progress, as it goes from state to state. Assumes nothing.
use Rattle.std.proofs.Common.{ℕ, ◌+◌, ◌<◌, ◌≡◌, refl, sym, Bool, true, false, cond, Some, None, Err, List, [], arith, ltb, length, get_or, take, replicate, drop_of_length-le, length-take, ltb-true, ltb-false}
use Rattle.records.specs.declared.steps.Step.{Step}
use Rattle.engines.specs.Engines.{State, refuses, found_at, ended_by, begin}
use Rattle.engines.specs.declared.progress.Progress.{Progress}
use Rattle.answers.specs.Answers.{Done}
use Rattle.answers.specs.declared.Refusal.TheVariants.{OverBudget}
use Rattle.costs.specs.Range.{list_to}
use Rattle.recorder.specs.Ties.Splicing.{Spot, Adds, Behind, header_bytes, Written}
use Rattle.engines.specs.Ties.Progressing.{Meets, beginning}
use Rattle.costs.proofs.ListLaws.{list_to-same}
use Rattle.costs.specs.Limits.{vars_most}

begin-written : (out : List ℕ) → Written out (cond (ltb (length out) header_bytes) None (Some header_bytes)) []
begin-written out = go (ltb (length out) header_bytes) refl
  where
    go : (full : Bool) → ltb (length out) header_bytes ≡ full → Written out (cond full None (Some header_bytes)) []
    go true e = ltb-true (length out) header_bytes e
    go false e = let l = ltb-false (length out) header_bytes e in record { place = refl; fits = l; bytes = drop_of_length-le (take header_bytes out) {i = header_bytes} (let z = length-take header_bytes out in omega (arith, z)) }

pub begin_meets : (asked : Bool) (top vars : ℕ) (out : List ℕ) → Meets asked vars (beginning top (length out)) (replicate vars_most 0) out (begin top)
begin_meets asked top vars out = record { best = refl; nodes = refl; ended = refl; plan = refl; written = λ e. begin-written out }

-- the progress after a node, where the search has not ended
module _ (asked : Bool) (vars : ℕ) (x : Progress) (plan out : List ℕ) (s : State) (h : Meets asked vars x plan out s) where
  pub meets_over : x.over ≡ false → Meets asked vars (record { best = x.best; nodes = x.nodes; found = x.found; over = true; spot = x.spot }) plan out (ended_by (Err OverBudget) s)
  meets_over e = record { best = h.best; nodes = h.nodes; ended = refl; plan = h.plan; written = h.written }

  pub meets_found : (out' plan' : List ℕ) (spot : Spot) (w : List Step) (b : ℕ) (p : ℕ → ℕ) → (asked ≡ true → Adds out x.spot out' spot w) → ((v : ℕ) → v < vars → get_or plan' v 0 ≡ p v)
      → Meets asked vars (record { best = b; nodes = x.nodes + 1; found = true; over = x.over; spot = spot }) plan' out' (found_at (list_to vars p) b w s)
  meets_found out' plan' spot w b p adds same = record {
    best = refl;
    nodes = omega (arith, h.nodes);
    ended = h.ended;
    plan = list_to-same vars p (λ v. get_or plan' v 0) (λ v l. sym (same v l));
    written = λ e. adds e s.steps (h.written e);
  }

pub spot_behind : (asked : Bool) (vars : ℕ) (x : Progress) (plan o : List ℕ) (s : State) → Meets asked vars x plan o s → asked ≡ true → Behind o x.spot
spot_behind asked vars x plan o s m wanted = behind x.spot (m.written wanted)
  where
    behind : (spot : Spot) → Written o spot s.steps → Behind o spot
    behind None w = tt
    behind (Some at) w = (omega (arith, w.place), w.fits)

pub over_ended : (asked : Bool) (vars : ℕ) (x : Progress) (values out : List ℕ) (s : State) → Meets asked vars x values out s → x.over ≡ true → refuses s.ended ≡ true
over_ended asked vars x values out s h e = rw (h.ended, e)

pub over_goes : (asked : Bool) (vars : ℕ) (x : Progress) (values out : List ℕ) (s : State) → Meets asked vars x values out s → x.over ≡ false → s.ended ≡ Done
over_goes asked vars x values out s h e = rw e at h.ended

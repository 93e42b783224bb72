-- An engine that is right at each node searches right: its answer is the first cheapest plan, whatever the gate, where the search comes to its end.
-- Assumes nothing.
use Rattle.std.proofs.Common.{ℕ, zero, suc, ◌≤◌, ◌<◌, ◌≡◌, refl, ap, Bool, true, false, cond, not, ◌⊎◌, inl, inr, ⊎_elim, List, arith, T, eqb, eqb→eq, length, ltb-false}
use Rattle.std.proofs.Math.Decide.{ℕ_discrete, dec_lt}
use Rattle.std.proofs.Math.Dec.{eqb_refl}
use Rattle.std.proofs.Math.ListN.{get_or-eq_default}
use Rattle.answers.specs.Answers.{Answer, Done, number_of}
use Rattle.answers.proofs.AnswerLaws.{number_done}
use Rattle.costs.specs.Range.{sum_to}
use Rattle.costs.proofs.RangeLaws.{sum_to_point}
use Rattle.costs.proofs.TestLaws.{is_true, is_false}
use Rattle.boxes.specs.Loops.{each_to}
use Rattle.costs.specs.Net.{Net, Costs, price}
use Rattle.shifts.specs.Nodes.{Fits}
use Rattle.records.specs.Trees.{TreeNode, root, child}
use Rattle.shifts.proofs.NodeLaws.{fits_above, fits_value}
use Rattle.records.proofs.TreeLaws.{root_fits, child_fits}
use Rattle.costs.proofs.NetLaws.{price_capped}
use Rattle.records.specs.declared.steps.Step.{Step}
use Rattle.engines.specs.Rightness.{Found, Cut, LookRight, Right}
use Rattle.engines.specs.Engines.{Look, closes, finds, opens, State, Engine, Gate, found_at, opened_at, ended_by, refuses, taken, each_live, visit, begin, searched}
use Rattle.costs.specs.Cheapest.{value_in, Before, RightAnswer}

-- a choice between two looks, by what its test says
pub look_choose : (P : Look → Type 0) (b : Bool) (x y : Look) → (T b → P x) → (T (not b) → P y) → P (cond b x y)
look_choose P true x y f g = f tt
look_choose P false x y f g = g tt

-- from s to t, over the plans of U
pub record New (n : Net) (held : Costs) (U : (ℕ → ℕ) → Type 0) (s t : State) : Type 0 where
  pub falls : t.best < s.best
  pub whole : length t.plan ≡ n.vars
  pub fits : U (value_in t.plan)
  pub priced : price n held (value_in t.plan) ≡ t.best
  pub first : (p : ℕ → ℕ) → U p → Before p (value_in t.plan) → t.best < price n held p

-- nothing better was found
pub record SameBest (s t : State) : Type 0 where
  pub best : t.best ≡ s.best
  pub plan : t.plan ≡ s.plan

pub record Post (n : Net) (held : Costs) (U : (ℕ → ℕ) → Type 0) (s t : State) : Type 0 where
  pub lower : (p : ℕ → ℕ) → U p → t.best ≤ price n held p
  pub news : SameBest s t ⊎ New n held U s t

pub post_le : (n : Net) (held : Costs) {U : (ℕ → ℕ) → Type 0} {s t : State} → Post n held U s t → t.best ≤ s.best
post_le n held f = ⊎_elim (λ k. omega arith) (λ k. omega arith) f.news

-- how many variables are not branched above
abbrev pub unbranched : Net → TreeNode → ℕ
unbranched n d = sum_to n.vars (λ v. cond (d.branched v) 0 1)

pub child_unbranched : (n : Net) (d : TreeNode) (i a : ℕ) → i < n.vars → d.branched i ≡ false → unbranched n d ≡ suc (unbranched n (child d i a))
child_unbranched n d i a l h =
    let r = sum_to_point n.vars i (λ v. cond (d.branched v) 0 1) (λ v. cond ((child d i a).branched v) 0 1) l (λ j m x. rw (is_false (eqb j i) (λ t. x (eqb→eq j i t)))) in
    omega (arith, r.1, r.2, here, there)
  where
    here : ◌≡◌ {A = ℕ} (cond (d.branched i) 0 1) 1
    here = rw h

    there : ◌≡◌ {A = ℕ} (cond ((child d i a).branched i) 0 1) 0
    there = rw (is_true (eqb i i) (eqb_refl i))

pub all_free : (m : ℕ) → sum_to m (λ v. 1) ≡ m
all_free zero = refl
all_free (suc m) = omega (arith, all_free m)

-- what refuses nothing is success
pub refuses_none : (a : Answer) → refuses a ≡ false → a ≡ Done
refuses_none a e = number_done a (omega (arith, ltb-false 0 (number_of a) e))

-- where the search goes on nothing has ended it
goes_elim : (P : State → Type 0) (s y : State) → (cond (refuses s.ended) s y).ended ≡ Done → (y.ended ≡ Done → P y) → P (cond (refuses s.ended) s y)
goes_elim P s y k f = go (refuses s.ended) refl k
  where
    go : (b : Bool) → refuses s.ended ≡ b → (cond b s y).ended ≡ Done → P (cond b s y)
    go true e k = absurd (let z : refuses Done ≡ true = rw k at e in let w : ◌≡◌ {A = ℕ} 0 1 = cc in omega arith)
    go false e k = f k

-- the state after a look, when the search goes on
abbrev pub looked : Engine → Gate → ℕ → TreeNode → State → State
looked e g r d s = taken (e.look d s.best) s (λ d' i. each_live e.net d' i (λ a. visit e g r (child d' i a)))

-- a search that has ended stays as it is
pub visit_stops : (e : Engine) (g : Gate) (r : ℕ) (d : TreeNode) (s : State) → refuses s.ended ≡ true → visit e g r d s ≡ s
unfolding visit
visit_stops e g zero d s h = refl
visit_stops e g (suc r) d s h = rw h

-- one that has not ended asks the gate, and looks
pub visit_enters : (e : Engine) (g : Gate) (r : ℕ) (d : TreeNode) (s : State) → s.ended ≡ Done → visit e g (suc r) d s ≡ cond (refuses (g s)) (ended_by (g s) s) (looked e g r d s)
unfolding visit
visit_enters e g r d s k = go s.ended s _ k
  where
    go : (a : Answer) (s y : State) → a ≡ Done → cond (refuses a) s y ≡ y
    go a s y h = rw h

pub visit_elim : (P : State → Type 0) (e : Engine) (g : Gate) (r : ℕ) (d : TreeNode) (s : State) → (visit e g (suc r) d s).ended ≡ Done
    → ((looked e g r d s).ended ≡ Done → P (looked e g r d s)) → P (visit e g (suc r) d s)
unfolding visit
visit_elim P e g r d s k f = goes_elim P s _ k (λ k'. goes_elim P (ended_by (g s) s) _ k' f)

pub visit_going : (e : Engine) (g : Gate) (r : ℕ) (d : TreeNode) (s : State) → (visit e g r d s).ended ≡ Done → s.ended ≡ Done
unfolding visit
visit_going e g zero d s k = k
visit_going e g (suc r) d s k = go (refuses s.ended) _ refl k
  where
    go : (b : Bool) (y : State) → refuses s.ended ≡ b → (cond b s y).ended ≡ Done → s.ended ≡ Done
    go true y e k = k
    go false y e k = refuses_none s.ended e

-- one child, or none where the value is dead
pub each_going : (t : Bool) (y x : State) → (y.ended ≡ Done → x.ended ≡ Done) → (cond t y x).ended ≡ Done → x.ended ≡ Done
each_going true y x f k = f k
each_going false y x f k = k

module _ (e : Engine) (held : Costs) (I : TreeNode → Type 0) (right : Right e held I) (g : Gate) where
  abbrev N : Net
  N = e.net

  -- the plans that fit d with a value of i below a
  abbrev Part : TreeNode → ℕ → ℕ → (ℕ → ℕ) → Type 0
  Part d i a p = Fits N d.live p × (p i < a)

  -- no plan that agrees with q everywhere comes before it
  agrees_not_before : (p : ℕ → ℕ) (q : List ℕ) → length q ≡ N.vars → ((v : ℕ) → v < N.vars → p v ≡ value_in q v) → Before p (value_in q) → ⊥
  agrees_not_before p q w h b = elim (dec_lt b.first N.vars) [
    | yes m ↦ omega (arith, h b.first m, b.less)
    | no m ↦ omega (arith, get_or-eq_default q 0 {n = b.first} (omega arith), b.less)
  ]

  post_found : (d : TreeNode) (s : State) (q : List ℕ) (c : ℕ) (w : List Step) → Found N held d s.best q c → Post N held (Fits N d.live) s (found_at q c w s)
  post_found d s q c w h = record {
    lower = h.least;
    news = inr (record {
      falls = h.cheaper;
      whole = h.whole;
      fits = h.fits;
      priced = h.priced;
      first = λ p u b. ⊎_elim (λ a. absurd (agrees_not_before p q h.whole a b)) (λ a. omega (arith, h.cheaper)) (h.only p u);
    });
  }

  -- of two plans that fit d' the one with the less value of i comes before
  not_before : (d d' : TreeNode) (b i : ℕ) → Cut N held I d b d' i → (p w : ℕ → ℕ) → Fits N d'.live p → Fits N d'.live w → w i < p i → Before p w → ⊥
  not_before d d' b i cut p w u x l z = elim (dec_lt i z.first) [
    | yes m ↦ omega (arith, z.same i m)
    | no m ↦ elim (ℕ_discrete z.first i) [
      | yes y ↦ omega (arith, rw y at z.less)
      | no y ↦ omega (arith, z.less, cut.lower p w u x z.first (omega arith))
    ]
  ]

  module _ (d d' : TreeNode) (b i : ℕ) (cut : Cut N held I d b d' i) where
    -- the child of a live value a is searched, from t to r
    post_step : (a : ℕ) (s t r : State) → T (d'.live i a) → Post N held (Part d' i a) s t → Post N held (Fits N (child d' i a).live) t r → Post N held (Part d' i (suc a)) s r
    post_step a s t r alive f h = record { lower = low; news = ⊎_elim old new h.news }
      where
        low : (p : ℕ → ℕ) → Part d' i (suc a) p → r.best ≤ price N held p
        low p w = elim (ℕ_discrete (p i) a) [ yes x ↦ h.lower p (child_fits N d' i a p x w.0) | no x ↦ omega (arith, post_le N held h, f.lower p (w.0, omega arith)) ]

        new : New N held (Fits N (child d' i a).live) t r → SameBest s r ⊎ New N held (Part d' i (suc a)) s r
        new k = inr (record {
          falls = omega (arith, post_le N held f);
          whole = k.whole;
          fits = (fits_above N d'.live i a (value_in r.plan) alive k.fits, omega (arith, fits_value N d'.live i a (value_in r.plan) cut.variable k.fits));
          priced = k.priced;
          first = λ p w z. elim (ℕ_discrete (p i) a) [ yes x ↦ k.first p (child_fits N d' i a p x w.0) z | no x ↦ omega (arith, f.lower p (w.0, omega arith)) ];
        })

        later : SameBest t r → New N held (Part d' i a) s t → New N held (Part d' i (suc a)) s r
        later k m = record {
          falls = omega arith;
          whole = rw k.plan m.whole;
          fits = rw k.plan (m.fits.0, omega (arith, m.fits.1));
          priced = rw (k.plan, k.best) m.priced;
          first = rw (k.plan, k.best) (λ p w z. elim (ℕ_discrete (p i) a) [
            | yes x ↦ absurd (not_before d d' b i cut p (value_in t.plan) w.0 m.fits.0 (omega (arith, m.fits.1)) z)
            | no x ↦ m.first p (w.0, omega arith) z
          ]);
        }

        old : SameBest t r → SameBest s r ⊎ New N held (Part d' i (suc a)) s r
        old k = ⊎_elim (λ m. inl (record { best = cc; plan = cc })) (λ m. inr (later k m)) f.news

    -- a dead value has no plans
    post_dead : (a : ℕ) (s t : State) → d'.live i a ≡ false → Post N held (Part d' i a) s t → Post N held (Part d' i (suc a)) s t
    post_dead a s t dead f = record {
      lower = λ p w. f.lower p (less p w);
      news = ⊎_elim inl (λ k. inr (record { falls = k.falls; whole = k.whole; fits = (k.fits.0, omega (arith, k.fits.1)); priced = k.priced; first = λ p w. k.first p (less p w) })) f.news;
    }
      where
        less : (p : ℕ → ℕ) → Part d' i (suc a) p → Part d' i a p
        less p w = elim (ℕ_discrete (p i) a) [ yes x ↦ absurd (rw (x, dead) at (w.0.lives i cut.variable)) | no x ↦ (w.0, omega arith) ]

    post_either : (a : ℕ) (s t r : State) → Post N held (Part d' i a) s t → (T (d'.live i a) → r.ended ≡ Done → Post N held (Fits N (child d' i a).live) t r) → (cond (d'.live i a) r t).ended ≡ Done
        → Post N held (Part d' i (suc a)) s (cond (d'.live i a) r t)
    post_either a s t r f h k = go (d'.live i a) refl k
      where
        go : (x : Bool) → d'.live i a ≡ x → (cond x r t).ended ≡ Done → Post N held (Part d' i (suc a)) s (cond x r t)
        go true y k = let l : T (d'.live i a) = rw y tt in post_step a s t r l f (h l k)
        go false y k = post_dead a s t y f

    each_post : (f : ℕ → State → State) → ((a : ℕ) (x : State) → (f a x).ended ≡ Done → x.ended ≡ Done)
        → (s t : State) → SameBest s t → (c : ℕ) → ((a : ℕ) → a < c → T (d'.live i a) → (x : State) → (f a x).ended ≡ Done → Post N held (Fits N (child d' i a).live) x (f a x))
        → (each_to (λ a x. cond (d'.live i a) (f a x) x) c t).ended ≡ Done → Post N held (Part d' i c) s (each_to (λ a x. cond (d'.live i a) (f a x) x) c t)
    each_post f goes s t kept zero h k = record { lower = λ p w. absurd (omega (arith, w.1)); news = inl kept }
    each_post f goes s t kept (suc c) h k =
        post_either c s x (f c x) (each_post f goes s t kept c (λ a l. h a (omega arith)) (each_going (d'.live i c) (f c x) x (goes c x) k)) (λ l. h c (omega arith) l x) k
      where
        x : State
        x = each_to (λ a x. cond (d'.live i a) (f a x) x) c t

    -- every plan that fits d costs b at least, or fits d' and has a value of i below the size
    post_whole : (s t : State) → s.best ≡ b → Post N held (Part d' i (N.size i)) s t → Post N held (Fits N d.live) s t
    post_whole s t e f = record {
      lower = λ p u. ⊎_elim (λ x. f.lower p (x, x.plan.range i cut.variable)) (λ x. omega (arith, post_le N held f)) (cut.keeps p u);
      news = ⊎_elim inl (λ k. inr (record {
        falls = k.falls;
        whole = k.whole;
        fits = cut.narrows (value_in t.plan) k.fits.0;
        priced = k.priced;
        first = λ p u z. ⊎_elim (λ x. k.first p (x, x.plan.range i cut.variable) z) (λ x. omega (arith, k.falls)) (cut.keeps p u);
      })) f.news;
    }

  -- a node searched to its end
  pub visit_post : (r : ℕ) (d : TreeNode) (s : State) → I d → unbranched N d < r → (visit e g r d s).ended ≡ Done → Post N held (Fits N d.live) s (visit e g r d s)
  visit_post zero d s inv l k = absurd (omega arith)
  visit_post (suc r) d s inv l k = visit_elim (Post N held (Fits N d.live) s) e g r d s k
      (go (e.look d s.best) (right.look d s.best inv) (λ d' i a h f m x. visit_post r (child d' i a) x (h.next a f m) (left d' i a h)))
    where
      left : (d' : TreeNode) (i a : ℕ) → Cut N held I d s.best d' i → unbranched N (child d' i a) < r
      left d' i a h = omega (arith, child_unbranched N d' i a h.variable h.free, ap (λ (z : ℕ → Bool). sum_to N.vars (λ v. cond (z v) 0 1)) h.above)

      go : (y : Look) → LookRight N held I d s.best y
          → ((d' : TreeNode) (i a : ℕ) → Cut N held I d s.best d' i → a < N.size i → T (d'.live i a) → (x : State) → (visit e g r (child d' i a) x).ended ≡ Done → Post N held (Fits N (child d' i a).live) x (visit e g r (child d' i a) x))
          → (taken y s (λ d' i. each_live N d' i (λ a. visit e g r (child d' i a)))).ended ≡ Done → Post N held (Fits N d.live) s (taken y s (λ d' i. each_live N d' i (λ a. visit e g r (child d' i a))))
      go (closes w) h f k = record { lower = h; news = inl (record { best = refl; plan = refl }) }
      go (finds q c w) h f k = post_found d s q c w h
      go (opens w d' i) h f k =
          post_whole d d' s.best i h s _ refl (each_post d d' s.best i h (λ a. visit e g r (child d' i a)) (λ a x. visit_going e g r (child d' i a) x) s (opened_at w i s) (record { best = refl; plan = refl }) (N.size i)
          (λ a l m. f d' i a h l m) k)

  pub searched_post : (searched e g).ended ≡ Done → Post N held (Fits N (root N).live) (begin N.top) (searched e g)
  searched_post k = visit_post (suc N.vars) (root N) (begin N.top) right.root (omega (arith, all_free N.vars)) k

  -- demand 2: "At the end best below k is the cheapest price; best equal to k is none", and the plan is the first of the cheapest
  pub searched_answer : (searched e g).ended ≡ Done → RightAnswer N held (searched e g).plan (searched e g).best
  searched_answer k = ⊎_elim
      (λ h. inl (record { plan = h.plan; best_is = h.best; all = λ p u. omega (arith, h.best, post.lower p (root_fits N p u), price_capped N held p) }))
      (λ h. inr (record {
        whole = h.whole;
        cheapest = record { plan = h.fits.plan; below = h.falls; priced = h.priced; least = λ p u. post.lower p (root_fits N p u) };
        first = λ p u. h.first p (root_fits N p u);
      }))
      post.news
    where
      post : Post N held (Fits N (root N).live) (begin N.top) (searched e g)
      post = searched_post k

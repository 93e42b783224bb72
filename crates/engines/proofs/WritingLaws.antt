-- What a search does does not depend on what was written before: a call may be stated from an empty list of steps. "The node count is the same when no record is
-- asked for". Assumes nothing.
use Rattle.std.proofs.Common.{ℕ, zero, suc, ◌≡◌, refl, ap, ◌∙◌, Bool, true, false, cond, List, [], ◌∷◌, ◌++◌, append_assoc}
use Rattle.answers.specs.Answers.{Answer}
use Rattle.boxes.specs.Loops.{each_to}
use Rattle.records.specs.Trees.{TreeNode, child}
use Rattle.records.specs.declared.steps.Step.{Step}
use Rattle.records.specs.declared.steps.Step.TheVariants.{Branch}
use Rattle.engines.specs.Engines.{Look, closes, finds, opens, State, Engine, Gate, never, closed_at, found_at, opened_at, ended_by, refuses, taken, each_live, visit, budget}

-- s with w written before its steps
abbrev pub onto : List Step → State → State
onto w s = record { best = s.best; plan = s.plan; count = s.count; steps = w ++ s.steps; ended = s.ended }

-- a gate that does not look at what is written
abbrev pub Blind : Gate → Type 0
Blind g = (w : List Step) (s : State) → g (onto w s) ≡ g s

pub never_blind : Blind never
never_blind w s = refl

pub budget_blind : (m : ℕ) → Blind (budget m)
unfolding budget
budget_blind m w s = refl

either_onto : (b : Bool) (w : List Step) (s y t : State) → y ≡ onto w t → cond b (onto w s) y ≡ onto w (cond b s t)
either_onto true w s y t h = refl
either_onto false w s y t h = h

each_onto : (d : TreeNode) (i : ℕ) (f : ℕ → State → State) (w : List Step) → ((a : ℕ) (x : State) → f a (onto w x) ≡ onto w (f a x)) → (c : ℕ) (s : State)
    → each_to (λ a x. cond (d.live i a) (f a x) x) c (onto w s) ≡ onto w (each_to (λ a x. cond (d.live i a) (f a x) x) c s)
each_onto d i f w h zero s = refl
each_onto d i f w h (suc c) s = ap (λ (x : State). cond (d.live i c) (f c x) x) (each_onto d i f w h c s) ∙ one (d.live i c) (each_to (λ a x. cond (d.live i a) (f a x) x) c s)
  where
    one : (t : Bool) (x : State) → cond t (f c (onto w x)) (onto w x) ≡ onto w (cond t (f c x) x)
    one true x = h c x
    one false x = refl

longer : (w : List Step) (s t : State) → s.best ≡ t.best → s.plan ≡ t.plan → s.count ≡ t.count → s.ended ≡ t.ended → s.steps ≡ w ++ t.steps → s ≡ onto w t
longer w s t a b c d e = λ i. record { best = a i; plan = b i; count = c i; steps = e i; ended = d i }

pub visit_onto : (e : Engine) (g : Gate) → Blind g → (r : ℕ) (d : TreeNode) (w : List Step) (s : State) → visit e g r d (onto w s) ≡ onto w (visit e g r d s)
unfolding visit
visit_onto e g blind zero d w s = refl
visit_onto e g blind (suc r) d w s =
    either_onto (refuses s.ended) w s _ _
    (ap (λ (x : Answer). cond (refuses x) (ended_by x (onto w s)) (taken (e.look d s.best) (onto w s) (λ d' i. each_live e.net d' i (λ a. visit e g r (child d' i a))))) (blind w s)
    ∙ either_onto (refuses (g s)) w (ended_by (g s) s) _ _ (go (e.look d s.best) (λ d' i a x. visit_onto e g blind r (child d' i a) w x)))
  where
    go : (y : Look) → ((d' : TreeNode) (i a : ℕ) (x : State) → visit e g r (child d' i a) (onto w x) ≡ onto w (visit e g r (child d' i a) x))
        → taken y (onto w s) (λ d' i. each_live e.net d' i (λ a. visit e g r (child d' i a))) ≡ onto w (taken y s (λ d' i. each_live e.net d' i (λ a. visit e g r (child d' i a))))
    go (closes ss) f = longer w _ (closed_at ss s) refl refl refl refl (append_assoc w s.steps ss)
    go (finds q c ss) f = longer w _ (found_at q c ss s) refl refl refl refl (append_assoc w s.steps ss)
    go (opens ss d' i) f =
        ap (each_live e.net d' i (λ a. visit e g r (child d' i a))) (longer w _ (opened_at ss i s) refl refl refl refl (append_assoc w s.steps (ss ++ (Branch i ∷ []))))
        ∙ each_onto d' i (λ a. visit e g r (child d' i a)) w (f d' i) (e.net.size i) (opened_at ss i s)

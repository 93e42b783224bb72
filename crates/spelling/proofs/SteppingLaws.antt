-- Laws of one step at the code's place: the working table matters below E alone, and each kind of step leaves what the rules say. Assumes nothing.
use Rattle.std.proofs.Common.{ℕ, suc, ◌+◌, ◌-◌, ◌≤◌, ◌<◌, ◌≡◌, refl, sym, ap, ◌∙◌, Bool, true, false, cond, not, ◌&&◌, ◌||◌, List, [], ◌∷◌, Option, Some, None, is_some, IfSome, Result, Ok, Err, arith, T, leb, ltb, ltb→lt, get_or}
use Rattle.std.proofs.Math.Option.{none, some}
use Rattle.std.specs.Option.{option_map, ok_or}
use Rattle.std.specs.Result.{result_ok}
use Rattle.answers.specs.Answers.{Done}
use Rattle.answers.specs.declared.Refusal.{Refusal}
use Rattle.answers.specs.declared.Refusal.TheVariants.{Illegal}
use Rattle.shifts.specs.Ties.Outcomes.{told}
use Rattle.costs.specs.Limits.{vars_most}
use Rattle.costs.specs.Net.{Net, Costs, tuples, start, entries, costs_of}
use Rattle.costs.specs.Tests.{between}
use Rattle.costs.proofs.RangeLaws.{all_to-same}
use Rattle.costs.proofs.NetLaws.{stretch_below}
use Rattle.costs.proofs.TestLaws.{both, so}
use Rattle.shifts.specs.declared.moves.Move.{Move}
use Rattle.shifts.specs.declared.moves.Move.TheVariants.{Project, Extend, Raise}
use Rattle.shifts.specs.Nodes.{fixing, live_entry}
use Rattle.shifts.specs.Moves.{shifted, joins, gives, is_legal}
use Rattle.shifts.specs.Doors.{CostsLeft, leaves, tried}
use Rattle.tables.proofs.TableLaws.{zero_at}
use Rattle.shifts.proofs.LegalTests.{by_joins}
use Rattle.records.specs.declared.steps.Step.{Step}
use Rattle.records.specs.declared.steps.Step.TheVariants.{Branch, Shift, Close}
use Rattle.records.specs.Steps.{Spelt, step_words}
use Rattle.records.specs.Trees.{TreeNode, root, children}
use Rattle.records.specs.Rules.{Claim, current, nodes_after, costs_after}
use Rattle.spelling.specs.declared.trees.Place.{Place}
use Rattle.spelling.specs.Spelling.{Kept, NodeCosts, no_fault, is_none, may, steps_fault}
use Rattle.spelling.specs.Ties.Standing.{is_set, said, Upright, node_at, pending_at, nodes_at, LeadsTo, root_place}
use Rattle.spelling.specs.Ties.Stepping.{Follows, Leads, Took, ShiftedTo, Shifted, shifted_place}
use Rattle.spelling.proofs.SpellingLaws.{broken_at}
use Rattle.spelling.proofs.StandingLaws.{root_nodes}

and_same : (a b c : Bool) → (T a → b ≡ c) → (a && b) ≡ (a && c)
and_same true b c h = h tt
and_same false b c h = refl

-- costs that agree below E: the same shifts are legal, and they agree after one
module _ (n : Net) (enough : n.vars ≤ n.parts) (c d : Costs) (agree : (j : ℕ) → j < entries n → c.at j ≡ d.at j) (live : ℕ → ℕ → Bool) where
  gives_same : (live : ℕ → ℕ → Bool) (s m : ℕ) → s < n.parts → gives n live c.at s m ≡ gives n live d.at s m
  unfolding gives
  gives_same live s m l =
      all_to-same (tuples n.size (n.scope s)) _ _
      (λ e h. ap (λ (x : ℕ). not (live_entry n.size live (n.scope s) e) || leb m x) (agree (start n s + e) (omega (arith, stretch_below n s l))))

  pub legal_same : (x : Move) → is_legal n live c x ≡ is_legal n live d x
  unfolding is_legal
  legal_same (Project f i a m) =
      and_same (between 1 n.top m) _ _ (λ s. and_same (joins n live f i a) _ _ (λ t. gives_same (fixing live i a) (n.vars + f) m ((by_joins n live f i a).says t).function))
  legal_same (Extend f i a m) =
      and_same (between 1 n.top m) _ _ (λ s. and_same (joins n live f i a) _ _ (λ t. gives_same (fixing live i a) i m (omega (arith, ((by_joins n live f i a).says t).variable))))
  legal_same (Raise i m) =
      and_same (between 1 n.top m) _ _ (λ s. and_same (ltb i n.vars) _ _ (λ t. gives_same live i m (omega (arith, ltb→lt i n.vars t))))

  pub shifted-same : (x : Move) (j : ℕ) → j < entries n → (shifted n live x c).at j ≡ (shifted n live x d).at j
  unfolding shifted
  shifted-same (Project f i a m) j l = rw (agree j l)
  shifted-same (Extend f i a m) j l = rw (agree j l)
  shifted-same (Raise i m) j l = rw (agree j l)

  pub shifted_constant : (x : Move) → c.constant ≡ d.constant → (shifted n live x c).constant ≡ (shifted n live x d).constant
  unfolding shifted
  shifted_constant (Project f i a m) e = e
  shifted_constant (Extend f i a m) e = e
  shifted_constant (Raise i m) e = rw e

nothing_begun : (b : Bool) (o : NodeCosts) → b ≡ not (is_none o) → not b ≡ is_none o
nothing_begun b none e = rw e
nothing_begun b (some c) e = rw e

untouched : (a b : Bool) (o : NodeCosts) → T (a && (b && is_none o)) → o ≡ none
untouched a b none t = refl
untouched a b (some c) t = absurd (both b false (both a (b && false) t).1).1

-- each kind of step, taken where it is allowed
module _ (r : Claim) (o : NodeCosts) (p : Place) (t : List ℕ) (follows : Follows r o p t) where
  pub took_branch : (i : ℕ) (q : Option Place) → is_some q ≡ (ltb i r.net.vars && (not (is_set (said p i)) && not p.begun))
      → IfSome q (LeadsTo r.net.vars r.net.size (children (node_at r.net.size p) i (r.net.size i) (pending_at r.net.size p)) false p.constant) → Took r o p (Branch i) q t
  unfolding may
  took_branch i q says leads = record { allowed = same; leads = go q (λ k. so (sym same ∙ k)) leads }
    where
      same : is_some q ≡ (ltb i r.net.vars && (not (is_set (said p i)) && is_none o))
      same = says ∙ rw (nothing_begun p.begun o follows.begun)

      go : (q : Option Place) → (is_some q ≡ true → T (ltb i r.net.vars && (not (is_set (said p i)) && is_none o)))
          → IfSome q (LeadsTo r.net.vars r.net.size (children (node_at r.net.size p) i (r.net.size i) (pending_at r.net.size p)) false p.constant) → IfSome q (λ next. Leads r o p (Branch i) next t)
      go None a h = tt
      go (Some next) a h =
          let e : o ≡ none = untouched (ltb i r.net.vars) (not (is_set (said p i))) o (a refl) in
          record {
            upright = h.upright;
            nodes = h.nodes;
            follows = record {
              begun = h.begun_is;
              constant = (rw e at follows.constant) ∙ sym h.constant_is;
              at = rw e at follows.at;
            };
          }

  pub took_shift : r.net.vars ≤ r.net.parts → p.over ≡ false → Upright r.net.vars r.net.size p → (x : Move) (q : Option Place) (t' : List ℕ) → Shifted r.net (node_at r.net.size p).live p x t q t'
      → Took r o p (Shift x) q t'
  unfolding may nodes_at pending_at
  took_shift enough going u x q t' h = record {
    allowed = h.allowed ∙ sym (legal_same r.net enough (current r.held o) (costs_of p.constant t) follows.at (node_at r.net.size p).live x);
    leads = go q h.made;
  }
    where
      go : (q : Option Place) → IfSome q (λ next. ShiftedTo p (shifted r.net (node_at r.net.size p).live x (costs_of p.constant t)) next t') → IfSome q (λ next. Leads r o p (Shift x) next t')
      go None h = tt
      go (Some next) h = record {
        upright = rw h.place (record { stacked = u.stacked });
        nodes = rw (h.place, going);
        follows = record {
          begun = rw h.place;
          constant = rw h.place (shifted_constant r.net enough (current r.held o) (costs_of p.constant t) follows.at (node_at r.net.size p).live x follows.constant);
          at = λ j l. shifted-same r.net enough (current r.held o) (costs_of p.constant t) follows.at (node_at r.net.size p).live x j l ∙ sym (h.table j);
        };
      }

  pub took_close : (q : Option Place) (t' : List ℕ) (many : ℕ) → many ≡ entries r.net → is_some q ≡ leb r.cost p.constant
      → IfSome q (λ next. LeadsTo r.net.vars r.net.size (pending_at r.net.size p) false r.held.constant next × ((j : ℕ) → j < many → get_or t' j 0 ≡ r.held.at j)) → Took r o p Close q t'
  unfolding may
  took_close q t' many e says leads = record { allowed = rw follows.constant says; leads = go q leads }
    where
      go : (q : Option Place) → IfSome q (λ next. LeadsTo r.net.vars r.net.size (pending_at r.net.size p) false r.held.constant next × ((j : ℕ) → j < many → get_or t' j 0 ≡ r.held.at j))
          → IfSome q (λ next. Leads r o p Close next t')
      go None h = tt
      go (Some next) h = record {
        upright = h.0.upright;
        nodes = h.0.nodes;
        follows = record { begun = h.0.begun_is; constant = sym h.0.constant_is; at = λ j l. sym (h.1 j (omega arith)) };
      }

-- where an option is none, what `?` hands back of it names the word
pub refused_for : {A : Type 0} {o : Option A} {w v : ℕ} {r : Result A ℕ} {out : Kept} → o ≡ None → r ≡ ok_or o w → r ≡ Err v → out ≡ Err v → out ≡ Err w
refused_for {A = A} {w = w} {v = v} absent is was says =
    let here : ◌≡◌ {A = Result A ℕ} (Err v) (Err w) = sym was ∙ is ∙ ap (λ (o : Option A). ok_or o w) absent in
    let same : v ≡ w = cc in
    says ∙ broken_at same

-- the steps from a place on
module _ (r : Claim) (at : ℕ → Spelt) (left w : ℕ) (p : Place) (o : NodeCosts) (some_left : 0 < left) where
  more : left ≡ suc (left - 1)
  more = omega arith

  steps_after : p.over ≡ true → Err w ≡ steps_fault r at left w (nodes_at r.net.size p) o
  unfolding steps_fault nodes_at
  steps_after e = rw (e, more)

  module _ (going : p.over ≡ false) where
    steps_unspelt : at w ≡ None → Err w ≡ steps_fault r at left w (nodes_at r.net.size p) o
    unfolding steps_fault nodes_at
    steps_unspelt e = rw (going, more, e)

    module _ (s : Step) (spelt : at w ≡ Some s) where
      steps_refused : may r (node_at r.net.size p) o s ≡ false → Err w ≡ steps_fault r at left w (nodes_at r.net.size p) o
      unfolding steps_fault nodes_at
      steps_refused e = rw (going, more, spelt, e)

      steps_taken : may r (node_at r.net.size p) o s ≡ true
          → steps_fault r at left w (nodes_at r.net.size p) o ≡ steps_fault r at (left - 1) (w + step_words) (nodes_after r (node_at r.net.size p) (pending_at r.net.size p) s) (costs_after r (node_at r.net.size p) o s)
      unfolding steps_fault nodes_at
      steps_taken e = let q : suc (left - 1) - 1 ≡ left - 1 = omega arith in rw (going, more, spelt, e, q)

-- at the end of the words
steps_closed : (r : Claim) (at : ℕ → Spelt) (w : ℕ) (p : Place) (o : NodeCosts) → p.over ≡ true → no_fault ≡ steps_fault r at 0 w (nodes_at r.net.size p) o
unfolding steps_fault nodes_at
steps_closed r at w p o e = rw e

steps_open : (r : Claim) (at : ℕ → Spelt) (w : ℕ) (p : Place) (o : NodeCosts) → p.over ≡ false → Err w ≡ steps_fault r at 0 w (nodes_at r.net.size p) o
unfolding steps_fault nodes_at
steps_open r at w p o e = rw e

-- what a shift that was tried left
pub tried_shift : (n : Net) (live : ℕ → ℕ → Bool) (p : Place) (x : Move) (t t' : List ℕ) (r : Result ℕ Refusal) → leaves (told r) t' ≡ tried n live x p.constant t
    → Shifted n live p x t (option_map (shifted_place p) (result_ok r)) t'
unfolding tried
tried_shift n live p x t t' r e = go r (is_legal n live (costs_of p.constant t) x) refl e
  where
    go : (r : Result ℕ Refusal) (b : Bool) → is_legal n live (costs_of p.constant t) x ≡ b
        → leaves (told r) t' ≡ cond b (record { answer = Done; costs = shifted n live x (costs_of p.constant t) }) (record { answer = Err Illegal; costs = costs_of 0 t })
        → Shifted n live p x t (option_map (shifted_place p) (result_ok r)) t'
    go (Ok constant) true f e = record {
      allowed = sym f;
      made = record { place = ap (λ (l : CostsLeft). shifted_place p l.costs.constant) e; table = λ j. ap (λ (l : CostsLeft). l.costs.at j) e };
    }
    go (Ok constant) false f e = absurd (let h = ap (λ (l : CostsLeft). l.answer) e in cc)
    go (Err refusal) true f e = absurd (let h = ap (λ (l : CostsLeft). l.answer) e in cc)
    go (Err refusal) false f e = record { allowed = sym f; made = tt }

-- the loop over the steps: the whole fault is that of the steps that are left, from the place on
pub record Stands (r : Claim) (at : ℕ → Spelt) (whole : Kept) (left w : ℕ) (p : Place) (t : List ℕ) : Type 0 where
  pub costs : NodeCosts
  pub follows : Follows r costs p t
  pub upright : Upright r.net.vars r.net.size p
  pub same : whole ≡ steps_fault r at left w (nodes_at r.net.size p) costs

pub stands-root : (r : Claim) (at : ℕ → Spelt) (left w constant : ℕ) (t : List ℕ) → r.held.constant ≡ constant → ((j : ℕ) → j < entries r.net → r.held.at j ≡ get_or t j 0)
    → Stands r at (steps_fault r at left w (root r.net ∷ []) none) left w (root_place constant) t
stands-root r at left w constant t e h = record {
  costs = none;
  follows = record { begun = refl; constant = e; at = h };
  upright = record { stacked = zero_at vars_most };
  same = ap (λ (ds : List TreeNode). steps_fault r at left w ds none) (sym (root_nodes r.net constant));
}

module _ (r : Claim) (at : ℕ → Spelt) (whole : Kept) (left w : ℕ) (p : Place) (t : List ℕ) (h : Stands r at whole left w p t) where
  pub stands_after : 0 < left → p.over ≡ true → Err w ≡ whole
  stands_after l e = steps_after r at left w p h.costs l e ∙ sym h.same

  pub stands_unspelt : 0 < left → p.over ≡ false → at w ≡ None → Err w ≡ whole
  stands_unspelt l going e = steps_unspelt r at left w p h.costs l going e ∙ sym h.same

  module _ (l : 0 < left) (going : p.over ≡ false) (s : Step) (spelt : at w ≡ Some s) (t' : List ℕ) where
    pub stands_refused : Took r h.costs p s None t' → Err w ≡ whole
    stands_refused took = steps_refused r at left w p h.costs l going s spelt (sym took.allowed) ∙ sym h.same

    pub stands_next : (next : Place) → Took r h.costs p s (Some next) t' → Stands r at whole (left - 1) (w + step_words) next t'
    stands_next next took = record {
      costs = costs_after r (node_at r.net.size p) h.costs s;
      follows = took.leads.follows;
      upright = took.leads.upright;
      same =
          h.same ∙ steps_taken r at left w p h.costs l going s spelt (sym took.allowed)
          ∙ ap (λ (ds : List TreeNode). steps_fault r at (left - 1) (w + step_words) ds (costs_after r (node_at r.net.size p) h.costs s)) (sym took.leads.nodes);
    }

-- at the end of the words
pub stands_closed : (r : Claim) (at : ℕ → Spelt) (whole : Kept) (w : ℕ) (p : Place) (t : List ℕ) → Stands r at whole 0 w p t → p.over ≡ true → no_fault ≡ whole
stands_closed r at whole w p t h e = steps_closed r at w p h.costs e ∙ sym h.same

pub stands_open : (r : Claim) (at : ℕ → Spelt) (whole : Kept) (w : ℕ) (p : Place) (t : List ℕ) → Stands r at whole 0 w p t → p.over ≡ false → Err w ≡ whole
stands_open r at whole w p t h e = steps_open r at w p h.costs e ∙ sym h.same

-- Laws of the noted pass. Assumes nothing.
use Rattle.std.proofs.Common.{ℕ, zero, suc, ◌+◌, ◌-◌, ◌≤◌, ◌<◌, ◌≡◌, Bool, true, List, [], ◌∷◌, ◌++◌, get_or, length, take, drop, drop-cons, drop_of_length-le, refl, sym, ap, ◌∙◌, arith}
use Rattle.costs.specs.Limits.{arity_most, size_most}
use Rattle.costs.specs.Net.{Net, costs_of}
use Rattle.costs.specs.Networks.{in_row, scope_in}
use Rattle.costs.specs.declared.networks.Network.{Network}
use Rattle.costs.proofs.RowLaws.{scope-function}
use Rattle.boxes.specs.declared.Span.{Span}
use Rattle.boxes.specs.Ties.Boxes.{cells}
use Rattle.boxes.specs.Loops.{each_to}
use Rattle.boxes.proofs.LoopLaws.{each_to_next}
use Rattle.shifts.specs.declared.moves.Move.{Move}
use Rattle.shifts.specs.declared.moves.Move.TheVariants.{Project}
use Rattle.shifts.specs.declared.sites.Site.{Site}
use Rattle.shifts.specs.Nodes.{fixing, least}
use Rattle.shifts.specs.Ties.Parts.{live_span}
use Rattle.shifts.specs.Ties.Sites.{net_at, lives}
use Rattle.shifts.proofs.PartLaws.{scope_long}
use Rattle.passes.specs.Passing.{Work, at_value, at_scope, projections, at_variable, pass}
use Rattle.passes.specs.Ties.Turns.{Turns}
use Rattle.passes.proofs.TurnLaws.{live_inside, skips_before, skips_after}
use Rattle.bounds.specs.Ties.Noting.{Stands, Leads, LeadsOn}

-- what a value and a variable of the pass leave noted
module _ (n : Net) (live : ℕ → ℕ → Bool) where
  value-zero : (f i a : ℕ) (w : Work) → live i a ≡ true → least n (fixing live i a) w.costs.at (n.vars + f) ≡ 0 → (at_value n live f i a w).shifts ≡ w.shifts
  value-zero f i a w l e = rw (l, e)

  value_some : (f i a m : ℕ) (w : Work) → live i a ≡ true → least n (fixing live i a) w.costs.at (n.vars + f) ≡ m → (m ≡ 0 → ⊥) → (at_value n live f i a w).shifts ≡ w.shifts ++ (Project f i a m ∷ [])
  value_some f i a zero w l e d = absurd (d refl)
  value_some f i a (suc m) w l e d = rw (l, e)

  pub value_leads_none : (f i a m count : ℕ) (t t' : List ℕ) (notes : List Move) → live i a ≡ true → m ≡ 0 → m ≡ least n (fixing live i a) (cells t) (n.vars + f) → Turns (at_value n live f i a) t t'
      → Leads (at_value n live f i a) t notes count t' notes count
  value_leads_none f i a m count t t' notes l e least-is turns constant w h = record {
    costs = turns constant w h.costs;
    shifts = value-zero f i a w l (rw h.costs (sym least-is ∙ e)) ∙ h.shifts;
  }

  pub value_leads_one : (f i a m count : ℕ) (t t' : List ℕ) (notes notes' : List Move) → live i a ≡ true → (m ≡ 0 → ⊥) → m ≡ least n (fixing live i a) (cells t) (n.vars + f) → Turns (at_value n live f i a) t t'
      → take (count + 1) notes' ≡ take count notes ++ (Project f i a m ∷ []) → Leads (at_value n live f i a) t notes count t' notes' (count + 1)
  value_leads_one f i a m count t t' notes notes' l d least-is turns more constant w h = record {
    costs = turns constant w h.costs;
    shifts = value_some f i a m w l (rw h.costs (sym least-is)) d ∙ ap (λ (xs : List Move). xs ++ (Project f i a m ∷ [])) h.shifts ∙ sym more;
  }

  -- part of a scope is done
  abbrev pub Midway : ℕ → List ℕ → List ℕ → List ℕ → List Move → ℕ → List ℕ → List Move → ℕ → Type 0
  Midway f left all t notes count u noted many = (constant : ℕ) (w : Work) → Stands w constant t notes count → (v : Work) × Stands v constant u noted many × (at_scope n live f left v ≡ at_scope n live f all w)

  pub midway_next : (f i count many more : ℕ) (left all t u u' : List ℕ) (notes noted noted' : List Move) → Midway f (i ∷ left) all t notes count u noted many → Leads (each_to (at_value n live f i) (n.size i)) u noted many u' noted' more
      → Midway f left all t notes count u' noted' more
  midway_next f i count many more left all t u u' notes noted noted' g h constant w e =
      let r = g constant w e in
      (each_to (at_value n live f i) (n.size i) r.0, h constant r.0 r.1, r.2)

  pub midway_at : (f : ℕ) (all : List ℕ) (k : ℕ) → k < length all → (count many more : ℕ) (t u u' : List ℕ) (notes noted noted' : List Move) → Midway f (drop k all) all t notes count u noted many
      → Leads (each_to (at_value n live f (get_or all k 0)) (n.size (get_or all k 0))) u noted many u' noted' more → Midway f (drop (k + 1) all) all t notes count u' noted' more
  midway_at f all k l count many more t u u' notes noted noted' g h =
      let e : k + 1 ≡ suc k = omega arith in
      rw e (midway_next f (get_or all k 0) count many more (drop (suc k) all) all t u u' notes noted noted' (rw (drop-cons all k 0 l) at g) h)

  pub midway_all : (f count many : ℕ) (all t u : List ℕ) (notes noted : List Move) → Midway f [] all t notes count u noted many → Leads (at_scope n live f all) t notes count u noted many
  midway_all f count many all t u notes noted g constant w e = let r = g constant w e in rw (← r.2) r.1

-- a loop's turn
pub leads_next : (step : ℕ → Work → Work) (i count many more : ℕ) (t u v : List ℕ) (notes noted last : List Move) → Leads (each_to step i) t notes count u noted many → Leads (step i) u noted many v last more → Leads (each_to step (i + 1)) t notes count v last more
leads_next step i count many more t u v notes noted last g h constant w e = rw (each_to_next step i w) (h constant _ (g constant w e))

module _ (site : Site) where
  abbrev net : Network
  net = site.judged.now.network.now

  abbrev n : Net
  n = net_at site

  abbrev live : ℕ → ℕ → Bool
  live = lives site

  -- a loop over a span of live values skips the dead ones before and after it
  module _ (f i : ℕ) (x : Span) (ex : x ≡ live_span net.sizes site.node.now i) where
    pub values_none : (count : ℕ) (t : List ℕ) (notes : List Move) → Leads (each_to (at_value n live f i) x.from) t notes count t notes count
    values_none count t notes constant w h = rw (skips_before site f i x ex w) h

    pub values_few : i < net.vars → (a : ℕ) → (x.from ≤ x.to → a ≤ x.to) → a ≤ size_most
    values_few li a most =
        let inside = live_inside site f i x ex li in
        omega (arith, most inside.0.ordered, inside, site.judged.now.ready.scoped.small i li)

    pub values_all : i < net.vars → (a : ℕ) → (x.from ≤ x.to → a ≤ x.to) → x.to ≤ a → (count many : ℕ) (t u : List ℕ) (notes noted : List Move)
        → Leads (each_to (at_value n live f i) a) t notes count u noted many → Leads (each_to (at_value n live f i) (get_or net.sizes i 0)) t notes count u noted many
    values_all li a most least count many t u notes noted g constant w h = rw (skips_after site f i x ex li a most least w) (g constant w h)

  -- a loop over a function's scope
  module _ (f : ℕ) (lf : f < net.functions) (vs : List ℕ) (e : vs ≡ scope_in (in_row net.scopes f)) where
    pub scope_short : length vs ≤ arity_most
    scope_short = omega (arith, ap length e, scope_long (in_row net.scopes f) (site.judged.now.ready.scoped.arity_at_most f lf), site.judged.now.ready.scoped.arity_at_most f lf)

    pub scope_done : (k : ℕ) → length vs ≤ k → (count many : ℕ) (t u : List ℕ) (notes noted : List Move) → Midway n live f (drop k vs) vs t notes count u noted many
        → Leads (at_scope n live f (scope_in (in_row net.scopes f))) t notes count u noted many
    scope_done k l count many t u notes noted g = rw e at (midway_all n live f count many vs t u notes noted (rw (drop_of_length-le vs l) at g))

  pub projections_all : (count : ℕ) (t u : List ℕ) (notes noted : List Move) → Leads (each_to (λ f. at_scope n live f (n.scope (net.vars + f))) net.functions) t notes 0 u noted count → Leads (projections n live) t notes 0 u noted count
  projections_all count t u notes noted g constant w h = let e : net.vars + net.functions - net.vars ≡ net.functions = omega arith in rw e (g constant w h)

  pub scope_leads : (f count many : ℕ) (t u : List ℕ) (notes noted : List Move) → Leads (at_scope n live f (scope_in (in_row net.scopes f))) t notes count u noted many → Leads (at_scope n live f (n.scope (net.vars + f))) t notes count u noted many
  scope_leads f count many t u notes noted g constant w h = rw (scope-function net.vars net.scopes f) (g constant w h)

-- the whole pass
pub pass_stands : (n : Net) (live : ℕ → ℕ → Bool) (constant r count many : ℕ) (t u v : List ℕ) (notes noted last : List Move) → Leads (projections n live) t notes 0 u noted count → LeadsOn (each_to (at_variable n live) n.vars) constant u noted count r v last many
    → Stands (pass n live (costs_of constant t)) r v last many
unfolding pass
pass_stands n live constant r count many t u v notes noted last g h = h _ (g constant (record { costs = costs_of constant t; shifts = [] }) (record { costs = refl; shifts = refl }))

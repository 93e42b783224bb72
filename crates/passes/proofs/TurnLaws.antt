-- The pass's steps on a lent table, as its loops make them. Assumes nothing.
use Rattle.std.proofs.Common.{ℕ, zero, suc, ◌+◌, ◌-◌, ◌≤◌, ◌<◌, ◌≡◌, Bool, true, false, List, [], ◌∷◌, get_or, length, drop, drop-cons, drop_of_length-le, refl, sym, ap, ◌∙◌, arith}
use Rattle.costs.specs.Cost.{plus}
use Rattle.costs.specs.Limits.{entries_most}
use Rattle.costs.specs.Net.{Net, entries, costs_of}
use Rattle.costs.specs.Networks.{in_row, scope_in, outline_of}
use Rattle.costs.specs.declared.networks.Network.{Network}
use Rattle.costs.proofs.TestLaws.{is_false}
use Rattle.costs.proofs.RowLaws.{scope-function}
use Rattle.boxes.specs.declared.Change.{Change}
use Rattle.boxes.specs.declared.Block.{Block}
use Rattle.boxes.specs.declared.Span.{Span}
use Rattle.boxes.specs.Loops.{each_to}
use Rattle.boxes.specs.Ties.Boxes.{InSize, spanned, sides, cells, box_on, box_least, changes}
use Rattle.boxes.proofs.LoopLaws.{each_to_next, each_idle}
use Rattle.shifts.specs.declared.moves.Move.{Move}
use Rattle.shifts.specs.declared.moves.Move.TheVariants.{Project, Raise}
use Rattle.shifts.specs.declared.sites.Site.{Site}
use Rattle.shifts.specs.Nodes.{fixing, least}
use Rattle.shifts.specs.Moves.{shifted}
use Rattle.shifts.specs.Ties.Parts.{live_span, Holds}
use Rattle.shifts.specs.Ties.Sites.{net_at, lives}
use Rattle.shifts.proofs.MoveLaws.{by_live, unary_roomy, row_sits, row-least, block_least, projects, raises}
use Rattle.shifts.proofs.PartLaws.{span_in, live_size}
use Rattle.shifts.proofs.SiteLaws.{site_laid}
use Rattle.passes.specs.Passing.{Work, shift_by, at_value, at_scope, projections, at_variable, pass}
use Rattle.passes.specs.Ties.Turns.{Carries, Turns, Midway}

-- a loop's turn
pub carries_next : (step : ℕ → Work → Work) (i before between after : ℕ) (t u v : List ℕ) → Carries (each_to step i) before t between u → Carries (step i) between u after v
    → Carries (each_to step (i + 1)) before t after v
carries_next step i before between after t u v g h w e = rw (each_to_next step i w) (h _ (g w e))

pub turns_next : (step : ℕ → Work → Work) (i : ℕ) (t u v : List ℕ) → Turns (each_to step i) t u → Turns (step i) u v → Turns (each_to step (i + 1)) t v
turns_next step i t u v g h constant = carries_next step i constant constant constant t u v (g constant) (h constant)

-- nothing to shift, or a shift
pub carries_zero : (n : Net) (live : ℕ → ℕ → Bool) (x : ℕ → Move) (m constant : ℕ) (t : List ℕ) → m ≡ 0 → Carries (shift_by n live x m) constant t constant t
carries_zero n live x m constant t e w h = rw e h

pub carries_some : (n : Net) (live : ℕ → ℕ → Bool) (x : ℕ → Move) (m constant after : ℕ) (t t' : List ℕ) → (m ≡ 0 → ⊥) → costs_of after t' ≡ shifted n live (x m) (costs_of constant t) → Carries (shift_by n live x m) constant t after t'
carries_some n live x zero constant after t t' d e w h = absurd (d refl)
carries_some n live x (suc m) constant after t t' d e w h = rw h (sym e)

module _ (n : Net) (live : ℕ → ℕ → Bool) where
  pub value_carries : (f i a m constant after : ℕ) (t t' : List ℕ) → live i a ≡ true → m ≡ least n (fixing live i a) (cells t) (n.vars + f) → Carries (shift_by n live (Project f i a) m) constant t after t' → Carries (at_value n live f i a) constant t after t'
  value_carries f i a m constant after t t' l e h w q = let e' : least n (fixing live i a) w.costs.at (n.vars + f) ≡ m = rw q (sym e) in rw (l, e') (h w q)

  value_dead : (f i a : ℕ) → live i a ≡ false → (w : Work) → at_value n live f i a w ≡ w
  value_dead f i a e w = rw e

  pub variable_carries : (i m constant after : ℕ) (t t' : List ℕ) → m ≡ least n live (cells t) i → Carries (shift_by n live (Raise i) m) constant t after t' → Carries (at_variable n live i) constant t after t'
  variable_carries i m constant after t t' e h w q = let e' : least n live w.costs.at i ≡ m = rw q (sym e) in rw e' (h w q)

  pub midway_next : (f i : ℕ) (left all t u v : List ℕ) → Midway n live f (i ∷ left) all t u → Turns (each_to (at_value n live f i) (n.size i)) u v → Midway n live f left all t v
  midway_next f i left all t u v g h constant w e =
      let r = g constant w e in
      (each_to (at_value n live f i) (n.size i) r.0, h constant r.0 r.1, r.2)

  pub midway_at : (f : ℕ) (all : List ℕ) (k : ℕ) → k < length all → (t u v : List ℕ) → Midway n live f (drop k all) all t u → Turns (each_to (at_value n live f (get_or all k 0)) (n.size (get_or all k 0))) u v
      → Midway n live f (drop (k + 1) all) all t v
  midway_at f all k l t u v g h = let e : k + 1 ≡ suc k = omega arith in rw e (midway_next f (get_or all k 0) (drop (suc k) all) all t u v (rw (drop-cons all k 0 l) at g) h)

  pub midway_all : (f : ℕ) (all t u : List ℕ) → Midway n live f [] all t u → Turns (at_scope n live f all) t u
  midway_all f all t u g constant w e = let r = g constant w e in ap (λ (x : Work). x.costs) (sym r.2) ∙ r.1

module _ (site : Site) where
  abbrev net : Network
  net = site.judged.now.network.now

  abbrev firsts : List ℕ
  firsts = site.firsts.now

  abbrev n : Net
  n = net_at site

  abbrev live : ℕ → ℕ → Bool
  live = lives site

  -- where a value's unary cost stands, and those of a variable
  pub unary_in : (room i a : ℕ) → entries n ≤ room → i < net.vars → a < get_or net.sizes i 0 → (get_or firsts i 0 + a < room) × (get_or firsts i 0 + a < entries_most)
  unary_in room i a h li la =
      let r = unary_roomy (outline_of net) net.sizes net.scopes net.starts firsts site.node.now room (site_laid site room h) i li in
      (omega (arith, r.0), omega (arith, r.1))

  pub row_in : (room i : ℕ) → entries n ≤ room → i < net.vars → (x : Span) → x ≡ live_span net.sizes site.node.now i → InSize x × (get_or firsts i 0 + x.size ≤ room)
  row_in room i h li x e = row_sits (outline_of net) net.sizes net.scopes net.starts firsts site.node.now room (site_laid site room h) i li x (get_or firsts i 0) e refl

  -- a value: nothing to project, or a projection
  module _ (f i a : ℕ) (li : i < net.vars) (la : a < get_or net.sizes i 0) (alive : live i a ≡ true) (b : Block) (holds : Holds n (fixing live i a) (net.vars + f) b)
      (m : ℕ) (t : List ℕ) (e : m ≡ box_least (sides b) b.at net.top (cells t)) where
    pub value_turns : (gives takes : Change) (u v : List ℕ) → (m ≡ 0 → ⊥)
        → gives ≡ record { takes = false; top = net.top; amount = m } → cells u ≡ box_on (sides b) b.at (changes gives) (cells t)
        → takes ≡ record { takes = true; top = net.top; amount = m } → cells v ≡ box_on [] (get_or firsts i 0 + a) (changes takes) (cells u)
        → Turns (at_value n live f i a) t v
    value_turns gives takes u v d eg g et h constant =
        value_carries n live f i a m constant constant t v alive (block_least n (fixing live i a) (net.vars + f) b m t holds e)
        (carries_some n live (Project f i a) m constant constant t v d
        (projects (outline_of net) net.sizes net.scopes site.node.now i li a la f (get_or firsts i 0 + a) m constant b t u v holds
        (ap (λ (x : ℕ). x + a) (site.first i li)) (rw eg at g) (rw et at h)))

  -- a variable: nothing to raise, or a raise
  module _ (i : ℕ) (li : i < net.vars) (x : Span) (ex : x ≡ live_span net.sizes site.node.now i) (m : ℕ) (t : List ℕ) (e : m ≡ box_least (spanned x ∷ []) (get_or firsts i 0) net.top (cells t)) where
    pub variable_least : m ≡ least n live (cells t) i
    variable_least = row-least (outline_of net) net.sizes net.scopes site.node.now i li x (get_or firsts i 0) m t ex (site.first i li) e

    pub variable_stays : m ≡ 0 → (constant : ℕ) → constant ≤ net.top → Carries (at_variable n live i) constant t (plus net.top constant m) t
    variable_stays z constant l =
        let same : plus net.top constant m ≡ constant = omega (arith, z) in
        rw same (variable_carries n live i m constant constant t t variable_least (carries_zero n live (Raise i) m constant t z))

    pub variable_turns : (gives : Change) (u : List ℕ) → (m ≡ 0 → ⊥) → gives ≡ record { takes = false; top = net.top; amount = m } → cells u ≡ box_on (spanned x ∷ []) (get_or firsts i 0) (changes gives) (cells t)
        → (constant : ℕ) → Carries (at_variable n live i) constant t (plus net.top constant m) u
    variable_turns gives u d eg g constant =
        variable_carries n live i m constant (plus net.top constant m) t u variable_least
        (carries_some n live (Raise i) m constant (plus net.top constant m) t u d
        (raises (outline_of net) net.sizes net.scopes site.node.now i li x (get_or firsts i 0) m constant t u ex (site.first i li) (rw eg at g)))

  -- a loop over a variable's live values
  module _ (f i : ℕ) (x : Span) (ex : x ≡ live_span net.sizes site.node.now i) where
    dead : (a : ℕ) → (x.from ≤ a → x.to ≤ a) → (w : Work) → at_value n live f i a w ≡ w
    dead a out w = value_dead n live f i a (is_false (live i a) (λ q. let r = rw (← ex) at ((by_live net.sizes site.node.now i a).says q) in omega (arith, r, out r.0))) w

    pub skips_before : (w : Work) → each_to (at_value n live f i) x.from w ≡ w
    skips_before w = each_idle (at_value n live f i) 0 x.from (omega arith) (λ a l m v. dead a (λ q. absurd (omega arith)) v) w

    module _ (li : i < net.vars) where
      -- the span lies in the variable's size
      pub live_inside : InSize x × (x.size ≡ get_or net.sizes i 0)
      live_inside = rw ex (span_in (get_or site.node.now i 0) (get_or net.sizes i 0) (site.legal i li), live_size net.sizes site.node.now i)

      pub skips_after : (a : ℕ) → (x.from ≤ x.to → a ≤ x.to) → x.to ≤ a → (w : Work) → each_to (at_value n live f i) (get_or net.sizes i 0) w ≡ each_to (at_value n live f i) a w
      skips_after a most least w =
          let e : a ≡ x.to = omega (arith, most live_inside.0.ordered) in
          rw e (each_idle (at_value n live f i) x.to (get_or net.sizes i 0) (omega (arith, live_inside)) (λ b m o v. dead b (λ r. m) v) w)

      pub values_all : (a : ℕ) → (x.from ≤ x.to → a ≤ x.to) → x.to ≤ a → (t u : List ℕ) → Turns (each_to (at_value n live f i) a) t u → Turns (each_to (at_value n live f i) (get_or net.sizes i 0)) t u
      values_all a most least t u g constant w h = rw (skips_after a most least w) (g constant w h)

    pub values_none : (t : List ℕ) → Turns (each_to (at_value n live f i) x.from) t t
    values_none t constant w h = rw (skips_before w) h

  -- a loop over a function's scope
  module _ (f : ℕ) (vs : List ℕ) (e : vs ≡ scope_in (in_row net.scopes f)) where
    pub scope_turns : (k : ℕ) → length vs ≤ k → (t u : List ℕ) → Midway n live f (drop k vs) vs t u → Turns (at_scope n live f (scope_in (in_row net.scopes f))) t u
    scope_turns k l t u g = rw e at (midway_all n live f vs t u (rw (drop_of_length-le vs l) at g))

  -- the loop over the functions is the projections
  pub projections_all : (t u : List ℕ) → Turns (each_to (λ f. at_scope n live f (n.scope (net.vars + f))) net.functions) t u → Turns (projections n live) t u
  projections_all t u g constant w h = let e : net.vars + net.functions - net.vars ≡ net.functions = omega arith in rw e (g constant w h)

  pub scope_carries : (f : ℕ) (t u : List ℕ) → Turns (at_scope n live f (scope_in (in_row net.scopes f))) t u → Turns (at_scope n live f (n.scope (net.vars + f))) t u
  scope_carries f t u g constant w h = rw (scope-function net.vars net.scopes f) (g constant w h)

-- the whole pass
pub pass_carries : (n : Net) (live : ℕ → ℕ → Bool) (constant r : ℕ) (t u v : List ℕ) → Turns (projections n live) t u → Carries (each_to (at_variable n live) n.vars) constant u r v → costs_of r v ≡ (pass n live (costs_of constant t)).costs
unfolding pass
pass_carries n live constant r t u v g h = sym (h _ (g constant (record { costs = costs_of constant t; shifts = [] }) refl))

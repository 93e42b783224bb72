-- What the code finds and does at a site is what the rules say of a shift there. Assumes nothing.
use Rattle.std.proofs.Common.{ℕ, ◌+◌, ◌≤◌, ◌<◌, ◌≡◌, Bool, true, false, ◌&&◌, ltb, leb, eqb, List, [], ◌∷◌, get_or, Ok, Err, refl, sym, ap, ◌∙◌, arith}
use Rattle.std.specs.List.{list_any}
use Rattle.answers.specs.declared.Refusal.TheVariants.{Illegal}
use Rattle.costs.specs.Cost.{plus}
use Rattle.costs.specs.Limits.{entries_most}
use Rattle.costs.specs.Net.{Net, entries, costs_of, start}
use Rattle.costs.specs.Networks.{outline_of}
use Rattle.costs.specs.Tests.{between, among}
use Rattle.costs.proofs.TestLaws.{by_eqb}
use Rattle.costs.specs.declared.networks.Network.{Network}
use Rattle.boxes.specs.declared.Change.{Change}
use Rattle.boxes.specs.declared.Block.{Block}
use Rattle.boxes.specs.declared.Span.{Span}
use Rattle.boxes.specs.Ties.Boxes.{spanned, sides, cells, box_on, box_least, changes, InSize}
use Rattle.shifts.specs.declared.moves.Move.TheVariants.{Project, Extend, Raise}
use Rattle.shifts.specs.declared.sites.Site.{Site}
use Rattle.shifts.specs.Nodes.{fixing, least}
use Rattle.shifts.specs.Moves.{joins, is_legal}
use Rattle.shifts.specs.Doors.{leaves, tried}
use Rattle.shifts.specs.Ties.Outcomes.{told}
use Rattle.shifts.specs.Ties.Parts.{Holds, live_span}
use Rattle.shifts.specs.Ties.Sites.{net_at, lives}
use Rattle.shifts.proofs.MoveLaws.{MayExchange, exchange_may, unary_roomy, row_sits, row-least, place_least, block_least, legal_project, legal_extend, legal_raise, extend_not, tried_not, tried_less, tried_enough, projects, extends, raises}
use Rattle.judging.proofs.JudgeLaws.{same_by}
use Rattle.shifts.proofs.SiteLaws.{site_laid}

-- a scope searched place by place
pub any_among : (i : ℕ) (vs : List ℕ) → list_any (λ v. eqb v i) vs ≡ among i vs
any_among i [] = refl
any_among i (v ∷ vs) = rw (same_by (by_eqb v i) (by_eqb i v) sym sym, any_among i vs)

module _ (site : Site) where
  abbrev net : Network
  net = site.judged.now.network.now

  abbrev firsts : List ℕ
  firsts = site.firsts.now

  abbrev n : Net
  n = net_at site

  abbrev live : ℕ → ℕ → Bool
  live = lives site

  -- a value's unary cost stands in the table
  unary_in : (room i a : ℕ) → entries n ≤ room → i < net.vars → a < get_or net.sizes i 0 → (get_or firsts i 0 + a < room) × (get_or firsts i 0 + a < entries_most)
  unary_in room i a h li la =
      let r = unary_roomy (outline_of net) net.sizes net.scopes net.starts firsts site.node.now room (site_laid site room h) i li in
      (omega (arith, r.0), omega (arith, r.1))

  -- and all those of a variable
  pub row_in : (room i : ℕ) → entries n ≤ room → i < net.vars → (x : Span) → x ≡ live_span net.sizes site.node.now i → InSize x × (get_or firsts i 0 + x.size ≤ room)
  row_in room i h li x e = row_sits (outline_of net) net.sizes net.scopes net.starts firsts site.node.now room (site_laid site room h) i li x (get_or firsts i 0) e refl

  module _ (m constant : ℕ) (t : List ℕ) where
    module _ (f i a : ℕ) (may : Bool) (fair : may ≡ (between 1 net.top m && joins n live f i a)) where
      pub project_not : may ≡ false → leaves (told (Err Illegal)) t ≡ tried n live (Project f i a m) constant t
      project_not e = tried_not n live (Project f i a m) constant m t may (least n (fixing live i a) (cells t) (net.vars + f)) (legal_project n live (costs_of constant t) f i a m may _ fair refl) e

      pub extend_no : may ≡ false → leaves (told (Err Illegal)) t ≡ tried n live (Extend f i a m) constant t
      extend_no e = extend_not n live f i a m constant t (sym fair ∙ e)

      module _ (passed : may ≡ true) where
        asked : MayExchange (outline_of net) net.sizes net.scopes site.node.now f i a m
        asked = exchange_may (outline_of net) net.sizes net.scopes site.node.now f i a m may fair passed

        pub asked_in : (room : ℕ) → entries n ≤ room → (get_or firsts i 0 + a < room) × (get_or firsts i 0 + a < entries_most)
        asked_in room h = unary_in room i a h asked.variable asked.value

        at_start : get_or firsts i 0 + a ≡ start n i + a
        at_start = ap (λ (x : ℕ). x + a) (site.first i asked.variable)

        module _ (b : Block) (holds : Holds n (fixing live i a) (net.vars + f) b) where
          module _ (has : ℕ) (e : has ≡ box_least (sides b) b.at net.top (cells t)) where
            pub project_less : has < m → leaves (told (Err Illegal)) t ≡ tried n live (Project f i a m) constant t
            project_less l =
                tried_less n live (Project f i a m) constant m t may has
                (legal_project n live (costs_of constant t) f i a m may has fair (block_least n (fixing live i a) (net.vars + f) b has t holds e)) l

            pub project_done : m ≤ has → (gives takes : Change) (u v : List ℕ)
                → gives ≡ record { takes = false; top = net.top; amount = m } → cells u ≡ box_on (sides b) b.at (changes gives) (cells t)
                → takes ≡ record { takes = true; top = net.top; amount = m } → cells v ≡ box_on [] (get_or firsts i 0 + a) (changes takes) (cells u)
                → leaves (told (Ok constant)) v ≡ tried n live (Project f i a m) constant t
            project_done l gives takes u v eg g et h =
                tried_enough n live (Project f i a m) constant m t may has
                (legal_project n live (costs_of constant t) f i a m may has fair (block_least n (fixing live i a) (net.vars + f) b has t holds e))
                constant v passed l
                (projects (outline_of net) net.sizes net.scopes site.node.now i asked.variable a asked.value f (get_or firsts i 0 + a) m constant b t u v holds at_start (rw eg at g) (rw et at h))

        extend_legal : (has : ℕ) → has ≡ get_or t (get_or firsts i 0 + a) 0 → is_legal n live (costs_of constant t) (Extend f i a m) ≡ (may && leb m has)
        extend_legal has e =
            legal_extend n live (costs_of constant t) f i a m may has fair
            (rw e (place_least (outline_of net) net.sizes net.scopes site.node.now i asked.variable a asked.value (get_or firsts i 0 + a) t at_start))

        pub extend_less : get_or t (get_or firsts i 0 + a) 0 < m → leaves (told (Err Illegal)) t ≡ tried n live (Extend f i a m) constant t
        extend_less l = tried_less n live (Extend f i a m) constant m t may (get_or t (get_or firsts i 0 + a) 0) (extend_legal _ refl) l

        pub extend_done : m ≤ get_or t (get_or firsts i 0 + a) 0 → (b : Block) → Holds n (fixing live i a) (net.vars + f) b → (gives takes : Change) (u v : List ℕ)
            → gives ≡ record { takes = false; top = net.top; amount = m } → cells u ≡ box_on [] (get_or firsts i 0 + a) (changes gives) (cells t)
            → takes ≡ record { takes = true; top = net.top; amount = m } → cells v ≡ box_on (sides b) b.at (changes takes) (cells u)
            → leaves (told (Ok constant)) v ≡ tried n live (Extend f i a m) constant t
        extend_done l b holds gives takes u v eg g et h =
            tried_enough n live (Extend f i a m) constant m t may (get_or t (get_or firsts i 0 + a) 0) (extend_legal _ refl) constant v passed l
            (extends (outline_of net) net.sizes net.scopes site.node.now i asked.variable a asked.value f (get_or firsts i 0 + a) m constant b t u v holds at_start (rw eg at g) (rw et at h))

    module _ (i : ℕ) where
      pub raise_not : false ≡ (between 1 net.top m && ltb i net.vars) → leaves (told (Err Illegal)) t ≡ tried n live (Raise i m) constant t
      raise_not e = tried_not n live (Raise i m) constant m t _ (least n live (cells t) i) (legal_raise n live (costs_of constant t) i m _ _ refl refl) (sym e)

      module _ (li : i < net.vars) (x : Span) (ex : x ≡ live_span net.sizes site.node.now i)
          (has : ℕ) (e : has ≡ box_least (spanned x ∷ []) (get_or firsts i 0) net.top (cells t)) where
        raise_legal : is_legal n live (costs_of constant t) (Raise i m) ≡ ((between 1 net.top m && ltb i net.vars) && leb m has)
        raise_legal =
            legal_raise n live (costs_of constant t) i m _ has refl
            (row-least (outline_of net) net.sizes net.scopes site.node.now i li x (get_or firsts i 0) has t ex (site.first i li) e)

        pub raise_less : has < m → leaves (told (Err Illegal)) t ≡ tried n live (Raise i m) constant t
        raise_less l = tried_less n live (Raise i m) constant m t _ has raise_legal l

        pub raise_done : true ≡ (between 1 net.top m && ltb i net.vars) → m ≤ has → (gives : Change) (u : List ℕ) (after : ℕ)
            → gives ≡ record { takes = false; top = net.top; amount = m } → cells u ≡ box_on (spanned x ∷ []) (get_or firsts i 0) (changes gives) (cells t)
            → after ≡ plus net.top constant m → leaves (told (Ok after)) u ≡ tried n live (Raise i m) constant t
        raise_done may l gives u after eg g ea =
            rw ea
            (tried_enough n live (Raise i m) constant m t _ has raise_legal (plus net.top constant m) u (sym may) l
            (raises (outline_of net) net.sizes net.scopes site.node.now i li x (get_or firsts i 0) m constant t u ex (site.first i li) (rw eg at g)))

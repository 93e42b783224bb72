-- Laws of the shown part. Assumes nothing.
use Rattle.std.proofs.Common.{ℕ, ◌+◌, ◌-◌, ◌≤◌, ◌<◌, ◌≡◌, refl, sym, Bool, true, false, cond, ◌&&◌, List, [], arith, leb, length, get_or, take, drop, Result, Ok, Err, is_ok}
use Rattle.costs.specs.declared.networks.Network.{Network}
use Rattle.judging.specs.declared.judged.Judged.{Judged}
use Rattle.judging.specs.Outlined.{outlined, outline_in}
use Rattle.judging.specs.declared.Unfit.{Unfit}
use Rattle.judging.specs.declared.Unfit.TheVariants.{NoNetwork, TooShort}
use Rattle.costs.specs.Limits.{functions_most, entries_most}
use Rattle.costs.specs.Net.{tuples, start, entries}
use Rattle.costs.specs.Networks.{Outline, in_row, scope_in, outline_of, stands, Scoped}
use Rattle.judging.specs.Judging.{is_network, judged, IsNetwork}
use Rattle.costs.specs.Tests.{Decides}
use Rattle.costs.proofs.TestLaws.{so, by_leb, by_ltb, by_and}
use Rattle.costs.proofs.NetLaws.{stretch_below}
use Rattle.costs.proofs.RowLaws.{scope-function}
use Rattle.judging.proofs.JudgeLaws.{by_network}
use Rattle.showing.specs.declared.Which.{Which}
use Rattle.showing.specs.declared.Which.TheVariants.{Held, Worked}
use Rattle.showing.specs.Showing.{table_of, whole_with, may_show, shown_part}

-- the judge of a table alone
pub whole_yes : (net : Network) (t : List ℕ) (o : Outline) → judged net t (length t) ≡ Ok o → true ≡ whole_with net t
unfolding judged whole_with
whole_yes net t o e = go (is_network net t) (leb (entries (stands net)) (length t)) e
  where
    go : (a b : Bool) → cond a (cond b (Ok (outline_of net)) (Err TooShort)) (Err NoNetwork) ≡ Ok o → true ≡ (a && b)
    go true true e = refl
    go true false e = cc
    go false b e = cc

pub whole_no : (net : Network) (t : List ℕ) (why : Unfit) → judged net t (length t) ≡ Err why → false ≡ whole_with net t
unfolding judged whole_with
whole_no net t why e = go (is_network net t) (leb (entries (stands net)) (length t)) e
  where
    go : (a b : Bool) → cond a (cond b (Ok (outline_of net)) (Err TooShort)) (Err NoNetwork) ≡ Err why → false ≡ (a && b)
    go true true e = cc
    go true false e = refl
    go false b e = refl

pub whole_ok : (net : Network) (t : List ℕ) (r : Result Judged Unfit) → outlined r ≡ judged net t (length t) → is_ok r ≡ whole_with net t
whole_ok net t (Ok passed) e = whole_yes net t (outline_in passed) (sym e)
whole_ok net t (Err why) e = whole_no net t why (sym e)

by_whole : (net : Network) (t : List ℕ) → Decides (whole_with net t) (IsNetwork net t × (entries (stands net) ≤ length t))
unfolding whole_with
by_whole net t = by_and (by_network net t) (by_leb (entries (stands net)) (length t))

-- what is known where a part is shown: the stretch lies in both tables
pub record Shows (net : Network) (held worked : List ℕ) (f : ℕ) : Type 0 where
  pub scoped : Scoped net.vars net.functions net.sizes net.scopes
  pub known : f < net.functions
  pub few : net.functions ≤ functions_most
  pub placed : get_or net.starts f 0 ≡ start (stands net) (net.vars + f)
  pub below : get_or net.starts f 0 + tuples (stands net).size (scope_in (in_row net.scopes f)) ≤ entries (stands net)
  pub small : entries (stands net) ≤ entries_most
  pub held_whole : entries (stands net) ≤ length held
  pub worked_whole : entries (stands net) ≤ length worked

module _ (net : Network) (held worked : List ℕ) (f : ℕ) where
  pub may_shows : may_show net held worked f ≡ true → Shows net held worked f
  unfolding may_show
  may_shows e =
      let h = (by_and (by_whole net held) (by_and (by_whole net worked) (by_ltb f net.functions))).says (so e) in
      let ready = h.0.0.ready in
      let l : f < net.functions = h.1.1 in
      record {
        scoped = ready.scoped;
        known = l;
        few = ready.scoped.functions_few;
        placed = ready.placed f l;
        below = rw (ready.placed f l, ← (scope-function net.vars net.scopes f)) (stretch_below (stands net) (net.vars + f) (omega arith));
        small = ready.few;
        held_whole = h.0.1;
        worked_whole = h.1.0.1;
      }

  module _ (which : Which) where
    -- the stretch of the table that is meant, from its start to its end
    pub part_fits : Shows net held worked f → get_or net.starts f 0 + tuples (stands net).size (scope_in (in_row net.scopes f)) ≤ length (table_of which held worked)
    part_fits s = go which
      where
        go : (which : Which) → get_or net.starts f 0 + tuples (stands net).size (scope_in (in_row net.scopes f)) ≤ length (table_of which held worked)
        go Held = omega (arith, s.below, s.held_whole)
        go Worked = omega (arith, s.below, s.worked_whole)

    pub shown_part_lem : (begins size : ℕ) → may_show net held worked f ≡ true → begins ≡ get_or net.starts f 0 → size ≡ tuples (stands net).size (scope_in (in_row net.scopes f))
        → take (begins + size - begins) (drop begins (table_of which held worked)) ≡ shown_part net held worked which f
    unfolding shown_part
    shown_part_lem begins size m e q =
        let s = may_shows m in
        let l : begins + size - begins ≡ size = omega arith in
        rw (l, e, q, s.placed, m, scope-function net.vars net.scopes f)

    pub shown_empty : may_show net held worked f ≡ false → [] ≡ shown_part net held worked which f
    unfolding shown_part
    shown_empty m = rw m

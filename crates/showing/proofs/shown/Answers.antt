use Rattle.std.proofs.Common.{rules, ◌≤◌, ◌+◌, sym, ◌∙◌, arith, length}
use Rattle.showing.proofs.ShowingLaws.{may_shows, part_fits, shown_part_lem, shown_empty}
use Rattle.showing.proofs.shown.Goals as goal

pub returns-then-not-may_show : goal.returns-then-not-may_show
returns-then-not-may_show c = let s = c.args in shown_empty s.net s.held.now s.worked.now s.f s.which (sym c.may_show.ensures ∙ c.if-not-may_show.true)

pub start-start-requires : goal.start-start-requires
start-start-requires c = let s = c.args in
    let shows = may_shows s.net s.held.now s.worked.now s.f (sym c.may_show.ensures ∙ c.if-not-may_show.false) in
    omega (arith, shows.known, shows.few)

pub tuples-requires : goal.tuples-requires
tuples-requires c = let s = c.args in
    let shows = may_shows s.net s.held.now s.worked.now s.f (sym c.may_show.ensures ∙ c.if-not-may_show.false) in
    (shows.scoped, shows.known)

pub overflow_add-end : goal.overflow_add-end
overflow_add-end c = let s = c.args in
    let shows = may_shows s.net s.held.now s.worked.now s.f (sym c.may_show.ensures ∙ c.if-not-may_show.false) in
    omega (arith, c.start-start.ensures, c.tuples.ensures, shows.below, shows.small)

pub offset_bounds-table-start : goal.offset_bounds-table-start
offset_bounds-table-start c = let s = c.args in
    let shows = may_shows s.net s.held.now s.worked.now s.f (sym c.may_show.ensures ∙ c.if-not-may_show.false) in
    omega (arith, c.start-start.ensures, shows.below, shows.small)

pub slice_bounds-result-end-2 : goal.slice_bounds-result-end-2
slice_bounds-result-end-2 c = let s = c.args in
    let shows = may_shows s.net s.held.now s.worked.now s.f (sym c.may_show.ensures ∙ c.if-not-may_show.false) in
    let fits : c.start-start.result + c.tuples.result ≤ length c.table.result.now = rw (c.start-start.ensures, c.tuples.ensures, c.table.ensures) (part_fits s.net s.held.now s.worked.now s.f s.which shows) in
    search rules

pub returns : goal.returns
returns c = let s = c.args in
    rw c.table.ensures (shown_part_lem s.net s.held.now s.worked.now s.f s.which _ _ (sym c.may_show.ensures ∙ c.if-not-may_show.false) c.start-start.ensures c.tuples.ensures)

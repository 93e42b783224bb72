use Rattle.std.proofs.Common.{arith, rules, ◌≡◌, refl, ap, le-leb, ℕ, List, ◌++◌, length, take, drop, length-take-le}
use Rattle.std.proofs.lemmas.Bool.{lt-leb}
use Rattle.tokens.specs.Steps.{and_then}
use Rattle.reader.proofs.ReadingLaws.{head_range, sizes_good, unary_few, reading_rest}
use Rattle.reader.proofs.reading.read_network.Goals as goal

pub read_domains-requires : goal.read_domains-requires
read_domains-requires c = (head_range _ _ c.read_header.ensures _ _ c.in_ok-head.was).vars_few

pub invariant_of-draft : goal.invariant_of-draft
invariant_of-draft c =
    let g = sizes_good _ _ c.read_header.ensures _ _ c.in_ok-head.was _ _ c.read_domains.ensures _ c.in_ok-unary.was in
    record {
      ranged = record { vars_few = (head_range _ _ c.read_header.ensures _ _ c.in_ok-head.was).vars_few; sized = g.some; small = g.most };
      unary = omega (arith, g.summed);
      few = unary_few _ _ c.read_header.ensures _ _ c.in_ok-head.was _ _ c.read_domains.ensures _ c.in_ok-unary.was;
      long = refl;
    }

pub read_functions-requires : goal.read_functions-requires
read_functions-requires c = omega (arith, (head_range _ _ c.read_header.ensures _ _ c.in_ok-head.was).functions_few)

pub returns-in_err-next-clause-value : goal.returns-in_err-next-clause-value
unfolding and_then
returns-in_err-next-clause-value c =
    rw (reading_rest _ _ c.read_header.ensures _ _ c.in_ok-head.was _ _ c.read_domains.ensures _ c.in_ok-unary.was _ _ c.read_functions.ensures.value (length c.args.table.now) (omega arith), c.in_err-next.was) (search rules)

pub returns-in_err-read_end-clause-value : goal.returns-in_err-read_end-clause-value
unfolding and_then
returns-in_err-read_end-clause-value c =
    rw (reading_rest _ _ c.read_header.ensures _ _ c.in_ok-head.was _ _ c.read_domains.ensures _ c.in_ok-unary.was _ _ c.read_functions.ensures.value (length c.args.table.now) (omega arith), c.in_ok-next.was, ← c.read_end.ensures, c.in_err-read_end.was) (search rules)

pub returns-then-table-draft-clause-value : goal.returns-then-table-draft-clause-value
unfolding and_then
returns-then-table-draft-clause-value c =
    let s = c.read_functions.new.draft in
    let e : length (take s.entries s.table) ≡ s.entries = length-take-le _ _ (omega (arith, s.few, s.long)) in
    rw (reading_rest _ _ c.read_header.ensures _ _ c.in_ok-head.was _ _ c.read_domains.ensures _ c.in_ok-unary.was _ _ c.read_functions.ensures.value (length c.args.table.now) (omega arith), c.in_ok-next.was, ← c.read_end.ensures, c.in_ok-read_end.was, e, lt-leb s.entries (length c.args.table.now) c.if-table-draft.true)

pub returns-clause-value : goal.returns-clause-value
unfolding and_then
returns-clause-value c =
    let s = c.read_functions.new.draft in
    let e : length (take s.entries s.table) ≡ s.entries = length-take-le _ _ (omega (arith, s.few, s.long)) in
    rw (reading_rest _ _ c.read_header.ensures _ _ c.in_ok-head.was _ _ c.read_domains.ensures _ c.in_ok-unary.was _ _ c.read_functions.ensures.value (length c.args.table.now) (omega arith), c.in_ok-next.was, ← c.read_end.ensures, c.in_ok-read_end.was, e, le-leb s.entries (length c.args.table.now) c.if-table-draft.false)

pub returns-clause-table_after : goal.returns-clause-table_after
unfolding and_then
returns-clause-table_after c =
    let s = c.read_functions.new.draft in
    let e : length (take s.entries s.table) ≡ s.entries = length-take-le _ _ (omega (arith, s.few, s.long)) in
    rw (reading_rest _ _ c.read_header.ensures _ _ c.in_ok-head.was _ _ c.read_domains.ensures _ c.in_ok-unary.was _ _ c.read_functions.ensures.value (length c.args.table.now) (omega arith), c.in_ok-next.was, ← c.read_end.ensures, c.in_ok-read_end.was, e, le-leb s.entries (length c.args.table.now) c.if-table-draft.false)
    (rw e (ap (λ (l : List ℕ). l ++ drop s.entries c.args.table.now) c.copy_from_slice.ensures.after))

use Rattle.std.proofs.Common.{arith, sym, ◌∙◌, rules}
use Rattle.costs.proofs.TestLaws.{so, not_so}
use Rattle.judging.proofs.JudgeLaws.{by_ranges, by_tests, by_network, scoped_by, stretched_end, stretched_broken, judged_not, judged_short, judged_fit, tests_passed}
use Rattle.judging.proofs.judge.Goals.{then-not-ranges_good-via-then-not-ranges_good, then-not-ranges_good-via-else-not-ranges_good+then-not-sizes_good, then-not-ranges_good-via-else-not-ranges_good+else-not-sizes_good+then-not-scopes_good, then-many-gt-ENTRIES-via-then-many-gt-ENTRIES, then-many-gt-ENTRIES-via-else-many-gt-ENTRIES+then-not-costs_good}
use Rattle.judging.proofs.judge.Goals as goal

pub sizes_good-requires : goal.sizes_good-requires
sizes_good-requires c = ((by_ranges _ _ _ _).says (so (sym c.ranges_good.ensures ∙ c.if-not-ranges_good.false))).1.1.0

pub scopes_good-requires : goal.scopes_good-requires
scopes_good-requires c = ((by_ranges _ _ _ _).says (so (sym c.ranges_good.ensures ∙ c.if-not-ranges_good.false))).1.1.1

pub returns-then-not-ranges_good-clause-value : goal.returns-then-not-ranges_good-clause-value
returns-then-not-ranges_good-clause-value c = elim c.then-not-ranges_good.branch [
  | then-not-ranges_good-via-then-not-ranges_good w ↦ judged_not _ _ _ (λ p. not_so (sym c.ranges_good.ensures ∙ w.if-not-ranges_good.true) p.ranges)
  | then-not-ranges_good-via-else-not-ranges_good+then-not-sizes_good w ↦ judged_not _ _ _ (λ p. not_so (sym w.sizes_good.ensures ∙ w.if-not-sizes_good.true) p.sizes)
  | then-not-ranges_good-via-else-not-ranges_good+else-not-sizes_good+then-not-scopes_good w ↦ judged_not _ _ _ (λ p. not_so (sym w.scopes_good.ensures ∙ w.if-not-scopes_good.true) p.scopes)
]

pub stretches-requires : goal.stretches-requires
stretches-requires c = let net = c.args.net.now in
    scoped_by net.top net.constant net.vars net.functions net.sizes net.scopes (so (sym c.ranges_good.ensures ∙ c.if-not-ranges_good.false)) (so (sym c.sizes_good.ensures ∙ c.if-not-sizes_good.false)) (so (sym c.scopes_good.ensures ∙ c.if-not-scopes_good.false))

pub returns-in_default-clause-value : goal.returns-in_default-clause-value
returns-in_default-clause-value c = let net = c.args.net.now in
    judged_not _ _ _ (λ p. stretched_broken net.vars net.functions net.sizes net.scopes net.starts (sym c.in_default.is ∙ c.stretches.ensures) p.stretches)

pub returns-then-many-gt-ENTRIES-clause-value : goal.returns-then-many-gt-ENTRIES-clause-value
returns-then-many-gt-ENTRIES-clause-value c = let net = c.args.net.now in
    let e = stretched_end net.vars net.functions net.sizes net.scopes net.starts c.in-Some.many (sym c.in-Some.is ∙ c.stretches.ensures) in
    elim c.then-many-gt-ENTRIES.branch [
      | then-many-gt-ENTRIES-via-then-many-gt-ENTRIES w ↦ judged_not _ _ _ (λ p. omega (arith, w.if-many-gt-ENTRIES.true, e.1, p.few))
      | then-many-gt-ENTRIES-via-else-many-gt-ENTRIES+then-not-costs_good w ↦ judged_not _ _ _ (λ p. not_so (sym w.costs_good.ensures ∙ w.if-not-costs_good.true) (rw e.1 p.costs))
    ]

pub returns-then-room-many-clause-value : goal.returns-then-room-many-clause-value
returns-then-room-many-clause-value c = let net = c.args.net.now in
    let e = stretched_end net.vars net.functions net.sizes net.scopes net.starts c.in-Some.many (sym c.in-Some.is ∙ c.stretches.ensures) in
    judged_short _ _ _ c.in-Some.many (tests_passed net c.args.table.now c.in-Some.many (so (sym c.ranges_good.ensures ∙ c.if-not-ranges_good.false)) (so (sym c.sizes_good.ensures ∙ c.if-not-sizes_good.false)) (so (sym c.scopes_good.ensures ∙ c.if-not-scopes_good.false)) e.0 e.1 (search rules) (so (sym c.costs_good.ensures ∙ c.if-not-costs_good.false))) e.1 (search rules)

pub invariant_of-result : goal.invariant_of-result
invariant_of-result c = let net = c.args.net.now in
    let e = stretched_end net.vars net.functions net.sizes net.scopes net.starts c.in-Some.many (sym c.in-Some.is ∙ c.stretches.ensures) in
    let passed = tests_passed net c.args.table.now c.in-Some.many (so (sym c.ranges_good.ensures ∙ c.if-not-ranges_good.false)) (so (sym c.sizes_good.ensures ∙ c.if-not-sizes_good.false)) (so (sym c.scopes_good.ensures ∙ c.if-not-scopes_good.false)) e.0 e.1 (search rules) (so (sym c.costs_good.ensures ∙ c.if-not-costs_good.false)) in
    record { ready = ((by_network net c.args.table.now).says ((by_tests net c.args.table.now).finds passed)).ready; whole = e.1 }

pub returns-clause-value : goal.returns-clause-value
returns-clause-value c = let net = c.args.net.now in
    let e = stretched_end net.vars net.functions net.sizes net.scopes net.starts c.in-Some.many (sym c.in-Some.is ∙ c.stretches.ensures) in
    judged_fit _ _ _ c.in-Some.many (tests_passed net c.args.table.now c.in-Some.many (so (sym c.ranges_good.ensures ∙ c.if-not-ranges_good.false)) (so (sym c.sizes_good.ensures ∙ c.if-not-sizes_good.false)) (so (sym c.scopes_good.ensures ∙ c.if-not-scopes_good.false)) e.0 e.1 (search rules) (so (sym c.costs_good.ensures ∙ c.if-not-costs_good.false))) e.1 (search rules)

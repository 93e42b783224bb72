use Rattle.desk.proofs.RecordLaws.{plan_value, values_low, plan_price_lem, plan_kept}
use Rattle.records.specs.Records.{told}
use Rattle.records.specs.Words.{word_at}
use Rattle.costs.proofs.RowLaws.{scoped_sound}
use Rattle.costs.proofs.NetLaws.{price-same}
use Rattle.costs.specs.Networks.{stands, outline_of}
use Rattle.costs.specs.Net.{costs_of}
use Rattle.std.proofs.Common.{◌≡◌, Err, sym, ap, ◌∙◌, arith, rules}
use Rattle.prices.specs.declared.prices.Priced.{Priced}
use Rattle.spelling.specs.Spelling.{Kept}
use Rattle.desk.proofs.checking.plan_fault.Goals as goal

pub returns-in_err-values_fault : goal.returns-in_err-values_fault
returns-in_err-values_fault c = let s = c.args in
    let net = s.judged.now.network.now in
    let out : ◌≡◌ {A = Kept} c.from_residual.result (Err c.in_err-values_fault.field-0.0) = search rules in
    out ∙ plan_value (stands net) (costs_of net.constant s.held.now) (word_at s.bytes.now) (sym c.word_at.ensures ∙ c.if-word_at-ne0.false) _ c.values_fault.ensures _ c.in_err-values_fault.was

pub plan_told-choice-requires-clause-by_index : goal.plan_told-choice-requires-clause-by_index
plan_told-choice-requires-clause-by_index c = let net = c.args.judged.now.network.now in
    λ v l. omega (arith, values_low net.vars (stands net).size (word_at c.args.bytes.now) _ c.values_fault.ensures c.in_ok-values_fault.was v l, c.args.judged.now.ready.scoped.small v l)

pub price_of-requires-clause-plan : goal.price_of-requires-clause-plan
price_of-requires-clause-plan c = let net = c.args.judged.now.network.now in
    record { range = λ v l. rw (c.plan_told-choice.ensures v l) (values_low net.vars (stands net).size (word_at c.args.bytes.now) _ c.values_fault.ensures c.in_ok-values_fault.was v l) }

pub returns-then-price_of-word_at : goal.returns-then-price_of-word_at
returns-then-price_of-word_at c = let s = c.args in
    let net = s.judged.now.network.now in
    let held = costs_of net.constant s.held.now in
    let same = price-same (stands net) (scoped_sound (outline_of net) net.sizes net.scopes s.judged.now.ready.scoped) held _ (told (word_at s.bytes.now)) c.plan_told-choice.ensures in
    plan_price_lem (stands net) held (word_at s.bytes.now) (sym c.word_at.ensures ∙ c.if-word_at-ne0.false) _ c.values_fault.ensures c.in_ok-values_fault.was _ (ap (λ (x : Priced). x.price) c.price_of.ensures ∙ same) (λ e. c.if-price_of-word_at.true (e ∙ sym c.word_at-2.ensures))

pub returns : goal.returns
returns c = let s = c.args in
    let net = s.judged.now.network.now in
    let held = costs_of net.constant s.held.now in
    let same = price-same (stands net) (scoped_sound (outline_of net) net.sizes net.scopes s.judged.now.ready.scoped) held _ (told (word_at s.bytes.now)) c.plan_told-choice.ensures in
    plan_kept (stands net) held (word_at s.bytes.now) (sym c.word_at.ensures ∙ c.if-word_at-ne0.false) _ c.values_fault.ensures c.in_ok-values_fault.was _ (ap (λ (x : Priced). x.price) c.price_of.ensures ∙ same) (c.if-price_of-word_at.false ∙ c.word_at-2.ensures)

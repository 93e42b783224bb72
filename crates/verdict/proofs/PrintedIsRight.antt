-- From the text to the lines: whatever the text, the program prints the right answer for the network that it spells, or its refusal, and no other lines
-- would be right. Assumes nothing.
use Rattle.std.proofs.Common.{ℕ, zero, suc, ◌+◌, ◌-◌, ◌≤◌, ◌<◌, min, ◌≡◌, refl, sym, subst, ◌∙◌, false, inl, inr, List, ◌++◌, arith, length, get_or, drop, replicate, get_or-drop, get_or-append-add, lt-ltb, le-ltb, ne_eqb}
use Rattle.std.proofs.Math.Path.{fun_ext}
use Rattle.std.proofs.Math.Decide.{dec_le, dec_lt}
use Rattle.std.proofs.Math.ListN.{get_or-append, get_or-eq_default}
use Rattle.std.proofs.lemmas.List.{length-replicate}
use Rattle.std.specs.Prelude.{Err}
use Rattle.answers.specs.declared.Refusal.TheVariants.{OverBudget}
use Rattle.answers.specs.Answers.{refusal_number}
use Rattle.costs.specs.Limits.{vars_most, entries_most}
use Rattle.costs.specs.Net.{Net, Costs, costs_of}
use Rattle.costs.specs.Networks.{stands}
use Rattle.costs.specs.Cheapest.{value_in, NonePayable, NoneBelow, Cheapest, RightAnswer}
use Rattle.tables.proofs.TableLaws.{zero_at}
use Rattle.judging.specs.Judging.{Lent}
use Rattle.tokens.specs.Steps.{Got, got, refused}
use Rattle.tokens.proofs.StepLaws.{same-value}
use Rattle.placing.specs.Drafts.{Draft}
use Rattle.reader.specs.Reading.{reading, answered, table_after}
use Rattle.reader.specs.ReadRight.{ReadRight, Readable}
use Rattle.reader.proofs.ReadIsRight.{draft_said, read_network, read_refuses}
use Rattle.engines.specs.declared.results.Searched.{Searched}
use Rattle.engines.specs.Results.{finished_search}
use Rattle.engines.proofs.OneAnswer.{one_answer}
use Rattle.visiting.specs.FirstSearch.{nodes_needed}
use Rattle.search.specs.Doors.{search_leaves}
use Rattle.search.proofs.SearchIsRight.{found_is, search_right, over_refused}
use Rattle.lines.specs.Lines.{refusal_line, choices_to}
use Rattle.verdict.specs.Verdicts.{searched_lines, program_budget, read_lines, printed}
use Rattle.verdict.specs.RightLines.{TellsCheapest, TellsNone, TellsNetwork, cheapest, none_payable, over_budget, RightLines}

-- ---- the lines of an answer
choices_front : (v : ℕ) (q rest : List ℕ) → v ≤ length q → choices_to v (q ++ rest) ≡ choices_to v q
unfolding choices_to
choices_front zero q rest h = refl
choices_front (suc v) q rest h = rw (choices_front v q rest (omega arith), get_or-append q rest 0 v (omega arith))

module _ (n : Net) (held : Costs) (few : n.vars ≤ vars_most) (q : List ℕ) (best : ℕ) where
  tells_cheapest : Cheapest n held q best → TellsCheapest n held (searched_lines n.top (finished_search q best (nodes_needed n held)))
  tells_cheapest c =
      let m : min (length q) vars_most ≡ length q = omega (arith, c.whole, few) in
      record { plan = q; cost = best; right = c; told = rw (lt-ltb best n.top c.cheapest.below, m, choices_front (length q) q (replicate (vars_most - length q) 0) (omega arith)) }

  tells_none : NoneBelow n held q best → TellsNone n held (searched_lines n.top (finished_search q best (nodes_needed n held)))
  tells_none c = record { right = c.all; told = rw (c.best_is, le-ltb n.top n.top (omega arith)) }

  tells : nodes_needed n held ≤ program_budget → RightAnswer n held q best → TellsNetwork n held (searched_lines n.top (finished_search q best (nodes_needed n held)))
  tells enough (inl c) = none_payable enough (tells_none c)
  tells enough (inr c) = cheapest enough (tells_cheapest c)

over_line : (top : ℕ) (found : Searched) → found.answer ≡ Err OverBudget → searched_lines top found ≡ refusal_line (Err OverBudget)
over_line top found e = rw e

-- ---- the costs that the program holds: those of the text, and zeros past them
past-zeros : (room : ℕ) (t : List ℕ) (j : ℕ) → get_or (t ++ drop (length t) (replicate room 0)) j 0 ≡ get_or t j 0
past-zeros room t j = elim (dec_lt j (length t)) [
  | yes l ↦ get_or-append t (drop (length t) (replicate room 0)) 0 j l
  | no l ↦
      let e : length t + (j - length t) ≡ j = omega (arith, l) in
      rw e at (get_or-append-add t (drop (length t) (replicate room 0)) (j - length t) 0)
      ∙ get_or-drop (length t) (replicate room 0) (j - length t) 0
      ∙ zero_at room (length t + (j - length t))
      ∙ sym (get_or-eq_default t 0 (omega (arith, l)))
]

held-costs : (constant room : ℕ) (t : List ℕ) → costs_of constant (t ++ drop (length t) (replicate room 0)) ≡ costs_of constant t
held-costs constant room t = λ i. record { constant = constant; at = fun_ext (past-zeros room t) i }

-- ---- a text that spells a network, in a table that holds every network's entries
module _ (text : List ℕ) (room : ℕ) (enough : entries_most ≤ room) (d : Draft) (next : ℕ) (reads : reading text room ≡ got d next) where
  abbrev held : List ℕ
  held = d.table ++ drop (length d.table) (replicate room 0)

  abbrev costs : Costs
  costs = costs_of d.net.constant held

  spelt_right : Readable text d × ReadRight text (replicate room 0) d.net held
  spelt_right = read_network text (replicate room 0) d next (rw (length-replicate {A = ℕ} room 0) reads)

  lent : Lent d.net held room
  lent = record { network = spelt_right.1.network; held_whole = spelt_right.1.whole; room_enough = omega (arith, enough, spelt_right.1.network.ready.few) }

  tells-held : TellsNetwork (stands d.net) costs (searched_lines d.net.top (search_leaves d.net held room 1 false program_budget).result)
  tells-held = elim (dec_le (nodes_needed (stands d.net) costs) program_budget) [
    | yes within ↦
        let r = (search_leaves d.net held room 1 false program_budget).result in
        let found = search_right d.net held room 1 false program_budget lent within (λ e. absurd (let z : ◌≡◌ {A = ℕ} 0 1 = cc in omega arith)) in
        subst (λ (x : Searched). TellsNetwork (stands d.net) costs (searched_lines d.net.top x)) (sym (found_is d.net held r found))
        (tells (stands d.net) costs spelt_right.1.network.ready.scoped.vars_few found.values r.cost within found.right)
    | no more ↦
        let over : program_budget < nodes_needed (stands d.net) costs = omega (arith, more) in
        over_budget over (over_line d.net.top (search_leaves d.net held room 1 false program_budget).result (over_refused d.net held room 1 false program_budget lent over))
  ]

  tells_spelt : TellsNetwork (stands d.net) (costs_of d.net.constant d.table) (searched_lines d.net.top (search_leaves d.net held room 1 false program_budget).result)
  tells_spelt = subst (λ (k : Costs). TellsNetwork (stands d.net) k (searched_lines d.net.top (search_leaves d.net held room 1 false program_budget).result)) (held-costs d.net.constant room d.table) tells-held

-- ---- any text
pub printed_right : (text : List ℕ) → RightLines text (printed text)
printed_right text = go (reading text entries_most) refl
  where
    go : (g : Got Draft) → reading text entries_most ≡ g → RightLines text (read_lines (answered g) (table_after g (replicate entries_most 0)))
    go (got d next) e = inl (record { draft = d; end = next; reads = e; said = draft_said text d (spelt_right text entries_most (omega arith) d next e).0; answer = tells_spelt text entries_most (omega arith) d next e })
    go (refused a) e =
        let o = read_refuses text entries_most a (omega arith) e in
        inr (record { why = a; refuses = e; of_text = o; told = rw (ne_eqb (refusal_number a) 0 (λ z. omega (arith, z, o.0))) })

-- ---- no other lines would be right
either : (n : Net) (held : Costs) (lines : List ℕ) → TellsCheapest n held lines → NonePayable n held → ⊥
either n held lines x h = let c = x.right.cheapest in omega (arith, h (value_in x.plan) c.plan, c.priced, c.below)

one_told : (n : Net) (held : Costs) (a b : List ℕ) → TellsNetwork n held a → TellsNetwork n held b → a ≡ b
one_told n held a b (cheapest l x) (cheapest m y) =
    let same = one_answer n held x.plan y.plan x.cost y.cost (inr x.right) (inr y.right) in
    x.told ∙ rw (same.0, same.1) (sym y.told)
one_told n held a b (cheapest l x) (none_payable m y) = absurd (either n held a x y.right)
one_told n held a b (cheapest l x) (over_budget m y) = absurd (omega (arith, l, m))
one_told n held a b (none_payable l x) (cheapest m y) = absurd (either n held b y x.right)
one_told n held a b (none_payable l x) (none_payable m y) = x.told ∙ sym y.told
one_told n held a b (none_payable l x) (over_budget m y) = absurd (omega (arith, l, m))
one_told n held a b (over_budget l x) (cheapest m y) = absurd (omega (arith, l, m))
one_told n held a b (over_budget l x) (none_payable m y) = absurd (omega (arith, l, m))
one_told n held a b (over_budget l x) (over_budget m y) = x ∙ sym y

pub one_right : (text a b : List ℕ) → RightLines text a → RightLines text b → a ≡ b
one_right text a b (inl x) (inl y) =
    let same : x.draft ≡ y.draft = same-value x.draft y.draft x.end y.end (sym x.reads ∙ y.reads) in
    one_told (stands y.draft.net) (costs_of y.draft.net.constant y.draft.table) a b (subst (λ (d : Draft). TellsNetwork (stands d.net) (costs_of d.net.constant d.table) a) same x.answer) y.answer
one_right text a b (inl x) (inr y) = absurd (let e = sym x.reads ∙ y.refuses in let z : ◌≡◌ {A = ℕ} 0 1 = cc in omega arith)
one_right text a b (inr x) (inl y) = absurd (let e = sym x.refuses ∙ y.reads in let z : ◌≡◌ {A = ℕ} 0 1 = cc in omega arith)
one_right text a b (inr x) (inr y) = let e = sym x.refuses ∙ y.refuses in let same : x.why ≡ y.why = cc in x.told ∙ rw same (sym y.told)

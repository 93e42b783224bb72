-- The desk accepts exactly the records that keep the rules. Assumes nothing.
use Rattle.std.proofs.Common.{Ok, Err, ℕ, zero, suc, ◌+◌, ◌*◌, ◌/◌, ◌%◌, ◌≤◌, ◌<◌, min, ◌≡◌, refl, sym, ap, ◌∙◌, true, cond, not, inl, inr, ⊎_elim, ◌≢◌, List, [], ◌∷◌, arith, leb, ltb, eqb, length, lt-ltb, ltb-true}
use Rattle.std.proofs.Math.Option.{none}
use Rattle.std.proofs.lemmas.Bool.{not-false}
use Rattle.costs.specs.declared.networks.Network.{Network}
use Rattle.answers.specs.Answers.{Answer, Done, number_of}
use Rattle.costs.specs.Net.{Net, Costs, IsPlan, costs_of, price}
use Rattle.costs.specs.Networks.{stands}
use Rattle.judging.specs.declared.Unfit.TheVariants.{NoNetwork, TooShort}
use Rattle.judging.specs.Judging.{Judgement, judged, Lent}
use Rattle.judging.proofs.JudgeLaws.{lent_fit, fit_lent}
use Rattle.costs.specs.Tests.{Decides}
use Rattle.costs.proofs.TestLaws.{by_leb, by_ltb, by_eqb, by_self, by_and, by_map}
use Rattle.costs.proofs.RangeLaws.{first_to_below, first_to_none}
use Rattle.records.specs.Words.{word_bytes, word_at}
use Rattle.records.specs.Steps.{step_words, step_at}
use Rattle.records.specs.Trees.{root}
use Rattle.records.specs.Records.{header_words, StepsKept, Shape, told, claims, KeepsRules, KeptBy}
use Rattle.spelling.specs.Spelling.{Kept}
use Rattle.spelling.specs.Spelling.{steps_fault}
use Rattle.spelling.proofs.SpellingLaws.{is_nowhere, by_rule, by_steps}
use Rattle.desk.specs.Faults.{Rule, rule, fault_in, answer_to}
use Rattle.desk.specs.Checking.{first_bad_value, header_rules, plan_rules, record_fault, whole_words, bytes_fault, after_judge, checked}

-- no value is bad
pub values_good : (vars : ℕ) (size word : ℕ → ℕ) → vars ≤ first_bad_value vars size word → (v : ℕ) → v < vars → told word v < size v
values_good vars size word h v l =
    ltb-true (told word v) (size v) (not-false (ltb (told word v) (size v)) (first_to_below vars (λ w. not (ltb (told word w) (size w))) v (omega arith)))

module _ (n : Net) (held : Costs) (word : ℕ → ℕ) (many : ℕ) where
  by_steps_kept : (w : ℕ) → Decides (is_nowhere (steps_fault (claims n held word) (step_at word) (word 7) w (root n ∷ []) none)) (StepsKept (claims n held word) word (word 7) w)
  by_steps_kept w =
      by_map (λ h. record { steps = h.steps; reads = h.reads; keeps = h.spells }) (λ h. record { steps = h.steps; reads = h.reads; spells = h.keeps })
      (by_steps (claims n held word) (step_at word) (word 7) w (root n ∷ []) none)

  by_shape : {A : Type 0} (count : ℕ) (later : Kept) → Decides (is_nowhere later) A
      → Decides (is_nowhere (fault_in (rule 4 (eqb (word 4) header_words) ∷ rule 5 (eqb (word 5) count) ∷ rule 6 (eqb (word 6) (header_words + count)) ∷ rule 7 (eqb many (header_words + count + step_words * word 7)) ∷ []) later))
      (Shape word many count × A)
  by_shape count later d =
      by_map
      (λ h. (record { values_from = h.0; values = h.1.0; steps_from = h.1.1.0; whole = h.1.1.1.0 }, h.1.1.1.1))
      (λ h. (h.0.values_from, (h.0.values, (h.0.steps_from, (h.0.whole, h.1)))))
      (by_rule _ 4 _ (by_eqb (word 4) header_words)
      (by_rule _ 5 _ (by_eqb (word 5) count)
      (by_rule _ 6 _ (by_eqb (word 6) (header_words + count))
      (by_rule _ 7 _ (by_eqb many (header_words + count + step_words * word 7)) d))))

  by_values : Decides (leb n.vars (first_bad_value n.vars n.size word)) (IsPlan n (told word))
  by_values =
      by_map (λ h. record { range = values_good n.vars n.size word h })
      (λ h. omega (arith, first_to_none n.vars (λ w. not (ltb (told word w) (n.size w))) (λ w l. rw (lt-ltb (told word w) (n.size w) (h.range w l)))))
      (by_leb n.vars (first_bad_value n.vars n.size word))

  -- with the verdict apart
  abbrev rules : ℕ → List Rule
  rules v =
      rule 0 (eqb (word 0) 1)
      ∷ rule 1 (eqb (word 1) n.vars)
      ∷ rule 2 (leb v 1)
      ∷ rule 3 (cond (eqb v 0) (ltb (word 3) n.top) (eqb (word 3) n.top))
      ∷ rule 4 (eqb (word 4) header_words)
      ∷ rule 5 (eqb (word 5) (cond (eqb v 0) n.vars 0))
      ∷ rule 6 (eqb (word 6) (header_words + cond (eqb v 0) n.vars 0))
      ∷ rule 7 (eqb many (header_words + cond (eqb v 0) n.vars 0 + step_words * word 7))
      ∷ cond (eqb v 0) (plan_rules n held word) []

  abbrev steps : ℕ → Kept
  steps v = steps_fault (claims n held word) (step_at word) (word 7) (header_words + cond (eqb v 0) n.vars 0) (root n ∷ []) none

  by_verdict : (v : ℕ) → word 2 ≡ v → Decides (is_nowhere (fault_in (rules v) (steps v))) (KeepsRules n held word many)
  unfolding plan_rules
  by_verdict zero e =
      by_map
      (λ h. record { edition = h.0; vars = h.1.0; claim = inl (record { verdict = e; cost = h.1.1.1.0; shape = h.1.1.1.1.0; plan = h.1.1.1.1.1.0; priced = h.1.1.1.1.1.1.0; steps = h.1.1.1.1.1.1.1 }) })
      (λ h. ⊎_elim (λ k. (h.edition, (h.vars, (tt, (k.cost, (k.shape, (k.plan, (k.priced, k.steps)))))))) (λ k. absurd (omega (arith, k.verdict))) h.claim)
      (by_rule _ 0 _ (by_eqb (word 0) 1)
      (by_rule _ 1 _ (by_eqb (word 1) n.vars)
      (by_rule _ 2 _ (by_self true)
      (by_rule _ 3 _ (by_ltb (word 3) n.top)
      (by_shape n.vars _
      (by_rule _ _ _ by_values
      (by_rule _ 3 _ (by_eqb (price n held (told word)) (word 3))
      (by_steps_kept (header_words + n.vars)))))))))
  by_verdict (suc zero) e =
      by_map
      (λ h. record { edition = h.0; vars = h.1.0; claim = inr (record { verdict = e; cost = h.1.1.1.0; shape = h.1.1.1.1.0; steps = h.1.1.1.1.1 }) })
      (λ h. ⊎_elim (λ k. absurd (omega (arith, k.verdict))) (λ k. (h.edition, (h.vars, (tt, (k.cost, (k.shape, k.steps)))))) h.claim)
      (by_rule _ 0 _ (by_eqb (word 0) 1)
      (by_rule _ 1 _ (by_eqb (word 1) n.vars)
      (by_rule _ 2 _ (by_self true)
      (by_rule _ 3 _ (by_eqb (word 3) n.top)
      (by_shape 0 _ (by_steps_kept header_words))))))
  by_verdict (suc (suc v)) e =
      by_map (λ h. absurd (omega (arith, h.1.1.0)))
      (λ h. absurd (⊎_elim (λ k. omega (arith, k.verdict)) (λ k. omega (arith, k.verdict)) h.claim))
      (by_rule _ 0 _ (by_eqb (word 0) 1)
      (by_rule _ 1 _ (by_eqb (word 1) n.vars)
      (by_rule (leb (suc (suc v)) 1) 2 _ (by_leb (suc (suc v)) 1) (by_self _))))

  -- no fault in the words exactly where they keep the rules
  by_record : Decides (is_nowhere (record_fault n held word many)) (KeepsRules n held word many)
  unfolding record_fault header_rules plan_rules
  by_record = by_verdict (word 2) refl

-- as bytes
pub by_bytes : (n : Net) (held : Costs) (bytes : List ℕ) → Decides (is_nowhere (bytes_fault n held bytes)) (KeptBy n held bytes)
unfolding bytes_fault
by_bytes n held bytes =
    by_map
    (λ (whole, kept). record { words = length bytes / word_bytes; whole = omega (arith, whole.1); header = omega (arith, whole.0); rules = kept })
    (λ h. let e : length bytes / word_bytes ≡ h.words = omega (arith, h.whole) in ((omega (arith, h.whole, h.header), omega (arith, h.whole)), rw e h.rules))
    (by_rule (whole_words (length bytes)) 0 _
    (by_and (by_leb (header_words * word_bytes) (length bytes)) (by_eqb (length bytes % word_bytes) 0))
    (by_record n held (word_at bytes) (length bytes / word_bytes)))

by_done : (f : Kept) → Decides (is_nowhere f) (answer_to f ≡ Done)
unfolding is_nowhere
by_done (Ok x) = record { says = λ t. refl; finds = λ e. tt }
by_done (Err w) = record { says = λ t. absurd t; finds = λ e. absurd (let z : ◌≡◌ {A = ℕ} 0 1 = cc in omega arith) }

-- an answer that is not the judge's: a network and room enough were lent
module _ (net : Network) (held : List ℕ) (room : ℕ) (bytes : List ℕ) where
  abbrev deserved : Answer
  deserved = answer_to (bytes_fault (stands net) (costs_of net.constant held) bytes)

  by_judge : (j : Judgement) → judged net held (min (length held) room) ≡ j → (a : Answer) → after_judge j deserved ≡ a → number_of a ≢ 7 → number_of a ≢ 8 → Lent net held room
  by_judge (Ok o) q a e not7 not8 = fit_lent net held room o (sym q)
  by_judge (Err NoNetwork) q a e not7 not8 = absurd (not8 (sym (ap number_of e)))
  by_judge (Err TooShort) q a e not7 not8 = absurd (not7 (sym (ap number_of e)))

  pub answer_lent : (a : Answer) → checked net held room bytes ≡ a → number_of a ≢ 7 → number_of a ≢ 8 → Lent net held room
  unfolding checked
  answer_lent a e not7 not8 = by_judge (judged net held (min (length held) room)) refl a e not7 not8

  -- then the answer is what the record's bytes deserve
  pub lent_checked : Lent net held room → checked net held room bytes ≡ deserved
  unfolding checked
  lent_checked l = rw (← (lent_fit net held room l))

-- demand 3, both halves: the desk accepts exactly the records that keep the rules
pub accepted_kept : (net : Network) (held : List ℕ) (room : ℕ) (bytes : List ℕ) → checked net held room bytes ≡ Done
    → Lent net held room × KeptBy (stands net) (costs_of net.constant held) bytes
accepted_kept net held room bytes e =
    let l = answer_lent net held room bytes Done e (λ z. omega (arith, z)) (λ z. omega (arith, z)) in
    (l, (by_bytes (stands net) (costs_of net.constant held) bytes).says ((by_done (bytes_fault (stands net) (costs_of net.constant held) bytes)).finds (sym (lent_checked net held room bytes l) ∙ e)))

pub kept_accepted : (net : Network) (held : List ℕ) (room : ℕ) (bytes : List ℕ) → Lent net held room → KeptBy (stands net) (costs_of net.constant held) bytes
    → checked net held room bytes ≡ Done
kept_accepted net held room bytes l k =
    lent_checked net held room bytes l
    ∙ (by_done (bytes_fault (stands net) (costs_of net.constant held) bytes)).says ((by_bytes (stands net) (costs_of net.constant held) bytes).finds k)

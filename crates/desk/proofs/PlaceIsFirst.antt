-- The place of a refusal is the first word at which the rules fail, in document 01's order. Assumes nothing.
use Rattle.std.proofs.Common.{Ok, Err, ℕ, ◌+◌, ◌/◌, ◌≡◌, refl, sym, ap, ◌∙◌, Bool, true, false, cond, not, ◌⊎◌, inl, inr, ⊎_elim, List, [], ◌∷◌, arith, T, length}
use Rattle.std.proofs.Math.Option.{none}
use Rattle.costs.specs.declared.networks.Network.{Network}
use Rattle.answers.specs.declared.Refusal.TheVariants.{BrokenRule}
use Rattle.answers.specs.Answers.{number_of, place_of}
use Rattle.costs.specs.Networks.{stands}
use Rattle.costs.specs.Net.{Net, Costs, costs_of}
use Rattle.judging.specs.Judging.{Lent}
use Rattle.records.specs.Steps.{step_at}
use Rattle.records.specs.Trees.{root}
use Rattle.records.specs.Words.{word_bytes, word_at}
use Rattle.records.specs.Records.{header_words, claims}
use Rattle.spelling.specs.Spelling.{Kept}
use Rattle.spelling.proofs.SpellingLaws.{same_place, broken_at, steps_place, place_steps}
use Rattle.desk.specs.Faults.{Rule, fault_in, AllKept, FirstBroken, answer_to}
use Rattle.desk.specs.Checking.{count_of, rules_of, record_fault, whole_words, bytes_fault, RecordBreaksAt, BreaksAt, checked}
use Rattle.desk.proofs.CheckIsTheRules.{answer_lent, lent_checked}

rules_place : (rs : List Rule) (later : Kept) (j : ℕ) → fault_in rs later ≡ Err j → FirstBroken rs j ⊎ (AllKept rs × (later ≡ Err j))
rules_place [] later j e = inr (tt, e)
rules_place (r ∷ rs) later j e = go r.kept e (rules_place rs later j)
  where
    go : (t : Bool) → cond t (fault_in rs later) (Err r.word) ≡ Err j → (fault_in rs later ≡ Err j → FirstBroken rs j ⊎ (AllKept rs × (later ≡ Err j)))
        → ((T (not t) × (r.word ≡ j)) ⊎ (T t × FirstBroken rs j)) ⊎ ((T t × AllKept rs) × (later ≡ Err j))
    go true e f = ⊎_elim (λ b. inl (inr (tt, b))) (λ k. inr ((tt, k.0), k.1)) (f e)
    go false e f = inl (inl (tt, same_place e))

place_rules : (rs : List Rule) (later : Kept) (j : ℕ) → FirstBroken rs j ⊎ (AllKept rs × (later ≡ Err j)) → fault_in rs later ≡ Err j
place_rules [] later j h = ⊎_elim (λ b. absurd b) (λ k. k.1) h
place_rules (r ∷ rs) later j h = go r.kept h (place_rules rs later j)
  where
    go : (t : Bool) → ((T (not t) × (r.word ≡ j)) ⊎ (T t × FirstBroken rs j)) ⊎ ((T t × AllKept rs) × (later ≡ Err j))
        → (FirstBroken rs j ⊎ (AllKept rs × (later ≡ Err j)) → fault_in rs later ≡ Err j) → cond t (fault_in rs later) (Err r.word) ≡ Err j
    go true h f = ⊎_elim (λ b. ⊎_elim (λ x. absurd x.0) (λ x. f (inl x.1)) b) (λ k. f (inr (k.0.1, k.1))) h
    go false h f = ⊎_elim (λ b. ⊎_elim (λ x. broken_at x.1) (λ x. absurd x.0) b) (λ k. absurd k.0.0) h

-- a record of whole words
module _ (n : Net) (held : Costs) (word : ℕ → ℕ) (many j : ℕ) where
  record_place : record_fault n held word many ≡ Err j → RecordBreaksAt n held word many j
  unfolding record_fault
  record_place e =
      ⊎_elim inl (λ k. inr (k.0, steps_place (claims n held word) (step_at word) (word 7) (header_words + count_of n.vars word) (root n ∷ []) none j k.1))
      (rules_place (rules_of n held word many) _ j e)

  place_record : RecordBreaksAt n held word many j → record_fault n held word many ≡ Err j
  unfolding record_fault
  place_record h =
      place_rules (rules_of n held word many) _ j
      (⊎_elim inl (λ k. inr (k.0, place_steps (claims n held word) (step_at word) (word 7) (header_words + count_of n.vars word) (root n ∷ []) none j k.1)) h)

-- as bytes
module _ (n : Net) (held : Costs) (bytes : List ℕ) (j : ℕ) where
  abbrev fault : Kept
  fault = record_fault n held (word_at bytes) (length bytes / word_bytes)

  by_length : (b : Bool) → whole_words (length bytes) ≡ b → cond b fault (Err 0) ≡ Err j → BreaksAt n held bytes j
  by_length true q e = inr (q, record_place n held (word_at bytes) (length bytes / word_bytes) j e)
  by_length false q e = inl (q, sym (same_place e))

  bytes_place : bytes_fault n held bytes ≡ Err j → BreaksAt n held bytes j
  unfolding bytes_fault
  bytes_place e = by_length (whole_words (length bytes)) refl e

  place_bytes : BreaksAt n held bytes j → bytes_fault n held bytes ≡ Err j
  unfolding bytes_fault
  place_bytes h =
      ⊎_elim (λ k. ap (λ (b : Bool). cond b fault (Err 0)) k.0 ∙ broken_at (sym k.1))
      (λ k. ap (λ (b : Bool). cond b fault (Err 0)) k.0 ∙ place_record n held (word_at bytes) (length bytes / word_bytes) j k.1) h

refused_at : (f : Kept) (j : ℕ) → answer_to f ≡ Err (BrokenRule j) → f ≡ Err j
refused_at (Ok x) j e = absurd (omega (arith, ap number_of e))
refused_at (Err i) j e = broken_at (ap place_of e)

-- the call's answer names the first word at which a rule is broken, and which
module _ (net : Network) (held : List ℕ) (room : ℕ) (bytes : List ℕ) (j : ℕ) where
  pub answer_place : checked net held room bytes ≡ Err (BrokenRule j) → Lent net held room × BreaksAt (stands net) (costs_of net.constant held) bytes j
  answer_place e =
      let lent = answer_lent net held room bytes (Err (BrokenRule j)) e (λ z. omega (arith, z)) (λ z. omega (arith, z)) in
      let f = bytes_fault (stands net) (costs_of net.constant held) bytes in
      (lent, bytes_place (stands net) (costs_of net.constant held) bytes j (refused_at f j (sym (lent_checked net held room bytes lent) ∙ e)))

  pub place_answer : Lent net held room → BreaksAt (stands net) (costs_of net.constant held) bytes j → checked net held room bytes ≡ Err (BrokenRule j)
  place_answer lent h = lent_checked net held room bytes lent ∙ ap answer_to (place_bytes (stands net) (costs_of net.constant held) bytes j h)

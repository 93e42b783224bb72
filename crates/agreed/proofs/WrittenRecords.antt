-- The record of a right answer, with steps that keep the rules, keeps the rules word by word, whoever wrote it. Assumes nothing.
use Rattle.std.proofs.Common.{ℕ, ◌+◌, ◌<◌, ◌≡◌, refl, ◌∙◌, ◌⊎◌, inl, inr, List, ◌++◌, arith, ltb, ltb→lt, lt→ltb, length, length-append, get_or-append-add}
use Rattle.std.proofs.Math.ListN.{get_or-append}
use Rattle.costs.proofs.TestLaws.{is_true, is_false}
use Rattle.costs.specs.Net.{Net, Costs, Sound}
use Rattle.costs.proofs.NetLaws.{price-same}
use Rattle.records.specs.declared.steps.Step.{Step}
use Rattle.records.specs.Rules.{claim_of, Keeps}
use Rattle.records.specs.Words.{tells}
use Rattle.records.specs.Steps.{spell}
use Rattle.records.specs.Records.{header_words, header_of, verdict_of, record_words, StepsKept, Shape, told, claims, SaysCheapest, SaysNone, KeepsRules}
use Rattle.records.proofs.StepLaws.{spell_many}
use Rattle.records.proofs.ReadSteps.{reads_spell}
use Rattle.costs.specs.Cheapest.{value_in, RightAnswer}

module _ (n : Net) (good : Sound n) (held : Costs) (q : List ℕ) (c : ℕ) (ss : List Step) (keeps : Keeps (claim_of n held c) ss) where
  abbrev written : List ℕ
  written = record_words n c q ss

  abbrev before : List ℕ
  before = header_of n.vars (verdict_of n.top c) c (length q) (length ss)

  steps_kept : (k : ℕ) → length q ≡ k → StepsKept (claims n held (tells written)) (tells written) (length ss) (header_words + k)
  steps_kept k e = record { steps = ss; reads = rw place at (reads_spell (before ++ q) ss); keeps = keeps }
    where
      place : length (before ++ q) ≡ header_words + k
      place = omega (arith, e)

  shape : (k : ℕ) → length q ≡ k → Shape (tells written) (length written) k
  shape k e = record { values_from = refl; values = e; steps_from = omega arith; whole = omega (arith, length-append q (spell ss), spell_many ss) }

  told_at : (v : ℕ) → v < length q → told (tells written) v ≡ value_in q v
  told_at v l = get_or-append-add before (q ++ spell ss) v 0 ∙ get_or-append q (spell ss) 0 v l

  pub written_keeps : RightAnswer n held q c → KeepsRules n held (tells written) (length written)
  written_keeps a = record { edition = refl; vars = refl; claim = go a }
    where
      go : RightAnswer n held q c → SaysCheapest n held (tells written) (length written) ⊎ SaysNone n held (tells written) (length written)
      go (inl h) =
          let e : length q ≡ 0 = rw h.plan in
          inr (record { verdict = rw (is_false (ltb c n.top) (λ t. omega (arith, ltb→lt c n.top t, h.best_is))); cost = h.best_is; shape = shape 0 e; steps = steps_kept 0 e })
      go (inr h) = inl (record {
        verdict = rw (is_true (ltb c n.top) (lt→ltb c n.top h.cheapest.below));
        cost = h.cheapest.below;
        shape = shape n.vars h.whole;
        plan = record { range = λ v l. rw (told_at v (omega (arith, h.whole))) (h.cheapest.plan.range v l) };
        priced = price-same n good held (told (tells written)) (value_in q) (λ v l. told_at v (omega (arith, h.whole))) ∙ h.cheapest.priced;
        steps = steps_kept n.vars h.whole;
      })

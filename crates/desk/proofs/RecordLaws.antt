-- The check of a record in its turns: the length, the header, the plan, the steps. Assumes nothing.
use Rattle.std.proofs.Common.{leb, leb→le, true, Err, ℕ, ◌+◌, ◌*◌, ◌/◌, ◌%◌, ◌≤◌, ◌<◌, min, ◌≡◌, sym, ◌∙◌, cond, List, [], ◌∷◌, ◌++◌, eq-eqb, ne_eqb, le-leb, eqb, eqb→eq, length}
use Rattle.std.proofs.Math.Option.{none}
use Rattle.std.proofs.lemmas.Bool.{lt-leb}
use Rattle.std.specs.Prelude.{MatchResult, IsErrAnd, Ok}
use Rattle.answers.specs.declared.Refusal.{Refusal}
use Rattle.answers.specs.declared.Refusal.TheVariants.{BrokenRule}
use Rattle.answers.specs.Answers.{Answer}
use Rattle.costs.specs.declared.networks.Network.{Network}
use Rattle.judging.specs.declared.Unfit.{Unfit}
use Rattle.costs.specs.Net.{Net, Costs, costs_of, price}
use Rattle.costs.specs.Networks.{Outline, stands}
use Rattle.judging.specs.Judging.{judged, refusal_of}
use Rattle.records.specs.Words.{word_bytes, word_at}
use Rattle.records.specs.Steps.{step_words, step_at}
use Rattle.records.specs.Trees.{root}
use Rattle.records.specs.Records.{header_words, told, claims}
use Rattle.spelling.specs.Spelling.{Kept, no_fault}
use Rattle.desk.specs.Faults.{Rule, rule, fault_in, answer_to}
use Rattle.desk.specs.Checking.{claim_rules, shape_rules, count_of, header_rules, first_bad_value, values_rule, plan_rules, record_fault, bytes_fault, checked}
use Rattle.spelling.specs.Spelling.{steps_fault}
use Rattle.costs.proofs.TestLaws.{is_true}
use Rattle.desk.proofs.CheckIsTheRules.{values_good}
use Rattle.desk.proofs.FaultLaws.{all_kept, fault_here, fault_later, fault_append}

abbrev pub plan_part : Net → Costs → (ℕ → ℕ) → List Rule
plan_part n held word = cond (eqb (word 2) 0) (plan_rules n held word) []

pub count_cheapest : (vars : ℕ) (word : ℕ → ℕ) → word 2 ≡ 0 → count_of vars word ≡ vars
count_cheapest vars word e = rw (eq-eqb (word 2) 0 e)

-- where no rule of the header is broken, the steps end where the words do
pub header-whole : (top vars : ℕ) (word : ℕ → ℕ) (many : ℕ) → fault_in (header_rules top vars word many) no_fault ≡ no_fault → many ≡ header_words + count_of vars word + step_words * word 7
unfolding header_rules
header-whole top vars word many e =
    eqb→eq many (header_words + count_of vars word + step_words * word 7) (all_kept (claim_rules top vars word ++ shape_rules word many (count_of vars word)) e).1.1.1.1.1.1.1.0

-- the whole check, as far as each turn goes
pub bytes_short : (n : Net) (held : Costs) (bytes : List ℕ) → length bytes < header_words * word_bytes → Err 0 ≡ bytes_fault n held bytes
unfolding bytes_fault
bytes_short n held bytes l = rw (lt-leb (header_words * word_bytes) (length bytes) l)

pub bytes_part : (n : Net) (held : Costs) (bytes : List ℕ) → header_words * word_bytes ≤ length bytes → (length bytes % word_bytes ≡ 0 → ⊥) → Err 0 ≡ bytes_fault n held bytes
unfolding bytes_fault
bytes_part n held bytes l d = rw (le-leb (header_words * word_bytes) (length bytes) l, ne_eqb (length bytes % word_bytes) 0 d)

module _ (n : Net) (held : Costs) (bytes : List ℕ) (long : header_words * word_bytes ≤ length bytes) (whole : length bytes % word_bytes ≡ 0)
    (header : Kept) (header_is : header ≡ fault_in (header_rules n.top n.vars (word_at bytes) (length bytes / word_bytes)) no_fault) where
  abbrev later : Kept
  later = steps_fault (claims n held (word_at bytes)) (step_at (word_at bytes)) (word_at bytes 7) (header_words + count_of n.vars (word_at bytes)) (root n ∷ []) none

  in_turns : bytes_fault n held bytes ≡ fault_in (header_rules n.top n.vars (word_at bytes) (length bytes / word_bytes)) (fault_in (plan_part n held (word_at bytes)) later)
  unfolding bytes_fault record_fault
  in_turns =
      rw (le-leb (header_words * word_bytes) (length bytes) long, eq-eqb (length bytes % word_bytes) 0 whole)
      (fault_append (header_rules n.top n.vars (word_at bytes) (length bytes / word_bytes)) (plan_part n held (word_at bytes)) _)

  pub bytes-header : (w : ℕ) → header ≡ Err w → Err w ≡ bytes_fault n held bytes
  bytes-header w e = sym (in_turns ∙ fault_here (header_rules n.top n.vars (word_at bytes) (length bytes / word_bytes)) _ w (sym header_is ∙ e))

  module _ (kept : header ≡ no_fault) (plan : Kept) (plan-is : plan ≡ fault_in (plan_part n held (word_at bytes)) no_fault) where
    past : bytes_fault n held bytes ≡ fault_in (plan_part n held (word_at bytes)) later
    past = in_turns ∙ fault_later (header_rules n.top n.vars (word_at bytes) (length bytes / word_bytes)) _ (sym header_is ∙ kept)

    pub bytes_plan : (w : ℕ) → plan ≡ Err w → Err w ≡ bytes_fault n held bytes
    bytes_plan w e = sym (past ∙ fault_here (plan_part n held (word_at bytes)) _ w (sym plan-is ∙ e))

    pub bytes_steps : plan ≡ no_fault → later ≡ bytes_fault n held bytes
    bytes_steps e = sym (past ∙ fault_later (plan_part n held (word_at bytes)) _ (sym plan-is ∙ e))

-- the plan in its turns
module _ (n : Net) (held : Costs) (word : ℕ → ℕ) where
  pub plan_none : (word 2 ≡ 0 → ⊥) → no_fault ≡ fault_in (plan_part n held word) no_fault
  plan_none d = rw (ne_eqb (word 2) 0 d)

  module _ (cheapest : word 2 ≡ 0) (values : Kept) (values-is : values ≡ fault_in (values_rule n.vars n.size word ∷ []) no_fault) where
    pub plan_value : (w : ℕ) → values ≡ Err w → Err w ≡ fault_in (plan_part n held word) no_fault
    unfolding plan_rules
    plan_value w e =
        rw (eq-eqb (word 2) 0 cheapest)
        (sym (fault_append (values_rule n.vars n.size word ∷ []) (rule 3 (eqb (price n held (told word)) (word 3)) ∷ []) no_fault ∙ fault_here (values_rule n.vars n.size word ∷ []) _ w (sym values-is ∙ e)))

    module _ (good : values ≡ no_fault) (cost : ℕ) (cost-is : cost ≡ price n held (told word)) where
      low : leb n.vars (first_bad_value n.vars n.size word) ≡ true
      low = is_true _ (all_kept (values_rule n.vars n.size word ∷ []) (sym values-is ∙ good)).0

      pub plan_price_lem : (cost ≡ word 3 → ⊥) → Err 3 ≡ fault_in (plan_part n held word) no_fault
      unfolding plan_rules
      plan_price_lem d = rw (eq-eqb (word 2) 0 cheapest, low, ← cost-is, ne_eqb cost (word 3) d)

      pub plan_kept : cost ≡ word 3 → no_fault ≡ fault_in (plan_part n held word) no_fault
      unfolding plan_rules
      plan_kept e = rw (eq-eqb (word 2) 0 cheapest, low, ← cost-is, eq-eqb cost (word 3) e)

-- no value is bad
pub values_low : (vars : ℕ) (size word : ℕ → ℕ) (values : Kept) → values ≡ fault_in (values_rule vars size word ∷ []) no_fault → values ≡ no_fault → (v : ℕ) → v < vars → told word v < size v
values_low vars size word values is good = values_good vars size word (leb→le _ _ (all_kept (values_rule vars size word ∷ []) (sym is ∙ good)).0)

-- as a `map_err` gives it
pub answered_by : (r : Kept) (out : Answer) (Says : ℕ → Refusal → Type 0) → ((w : ℕ) (x : Refusal) → Says w x → x ≡ BrokenRule w) → MatchResult r (λ x. out ≡ Ok x) (λ w. IsErrAnd out (Says w)) → out ≡ answer_to r
answered_by (Ok x) out Says is h = h
answered_by (Err w) (Ok x) Says is h = absurd h
answered_by (Err w) (Err x) Says is h = rw (is w x h)

-- the answer, where the judge refuses and where it does not
module _ (net : Network) (held : List ℕ) (room : ℕ) (bytes : List ℕ) where
  -- as a `?` gives it
  pub checked_refused : (why : Unfit) (r : Answer) → IsErrAnd r (λ x. Err x ≡ refusal_of why) → Err why ≡ judged net held (min (length held) room) → r ≡ checked net held room bytes
  unfolding checked
  checked_refused why (Ok done) h e = absurd h
  checked_refused why (Err x) h e = rw (← e) h

  pub checked_record : (o : Outline) (fault : Kept) → Ok o ≡ judged net held (min (length held) room) → fault ≡ bytes_fault (stands net) (costs_of net.constant held) bytes
      → answer_to fault ≡ checked net held room bytes
  unfolding checked
  checked_record o fault e f = rw (← e, f)

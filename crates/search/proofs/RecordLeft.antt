-- The record that a successful call leaves in the buffer, and that the call's count is the record's own. Assumes nothing.
use Rattle.std.proofs.Common.{ℕ, ◌+◌, ◌-◌, ◌*◌, ◌^◌, ◌≤◌, ◌<◌, ◌≡◌, refl, sym, ap, ◌∙◌, subst, true, List, ◌++◌, arith, length, replicate, length-append}
use Rattle.std.proofs.Math.Path.{fun_ext}
use Rattle.answers.specs.Answers.{Done}
use Rattle.costs.specs.declared.networks.Network.{Network}
use Rattle.costs.specs.Limits.{vars_most, size_most, functions_most, arity_most}
use Rattle.costs.specs.Net.{All, costs_of}
use Rattle.costs.specs.Networks.{outline_of, stands}
use Rattle.judging.specs.Judging.{Lent}
use Rattle.passes.proofs.PassLength.{scoped_within}
use Rattle.records.specs.Words.{word_at, tells}
use Rattle.records.specs.Steps.{step_words, spell, step_at}
use Rattle.records.specs.Records.{header_words, header_of, verdict_of, record_words, Reads}
use Rattle.records.proofs.WordLaws.{bytes_of_many, bytes_tell, word_front}
use Rattle.records.proofs.StepLaws.{spell_many}
use Rattle.records.proofs.ReadSteps.{reads_spell}
use Rattle.engines.specs.Engines.{State}
use Rattle.engines.specs.Results.{SearchLeft}
use Rattle.engines.proofs.ResultLaws.{finished_out}
use Rattle.engines.proofs.SmallWords.{words_small}
use Rattle.visiting.specs.FirstSearch.{whole_search}
use Rattle.search.specs.Doors.{search_leaves, whole_record, CountsSteps}
use Rattle.search.proofs.WholeSearch.{whole_answer, whole_keeps, whole_count}
use Rattle.search.proofs.SearchIsRight.{leaves-whole, done_right}

-- the words of the whole record
abbrev pub whole_record_words : Network → List ℕ → List ℕ
whole_record_words net held = record_words (stands net) (whole_search (stands net) (costs_of net.constant held)).best (whole_search (stands net) (costs_of net.constant held)).plan (whole_search (stands net) (costs_of net.constant held)).steps

pub words_count : (net : Network) (held : List ℕ) → length (whole_record_words net held) ≡ header_words + length (whole_search (stands net) (costs_of net.constant held)).plan + step_words * length (whole_search (stands net) (costs_of net.constant held)).steps
words_count net held = let s = whole_search (stands net) (costs_of net.constant held) in omega (arith, length-append s.plan (spell s.steps), spell_many s.steps)

-- a call with a record, into a slice of bytes, has succeeded
module _ (net : Network) (held : List ℕ) (work out limit : ℕ) (slice : out < 2 ^ 64) (done : (search_leaves net held work out true limit).result.answer ≡ Done) where
  abbrev left : SearchLeft
  left = search_leaves net held work out true limit

  abbrev last : State
  last = whole_search (stands net) (costs_of net.constant held)

  lent : Lent net held work
  lent = (done_right net held work out true limit done).0

  fits : length (whole_record net held) ≤ out
  fits = (done_right net held work out true limit done).2 refl

  -- "and after the record" zeros
  pub record_left : left.out ≡ whole_record net held ++ replicate (out - length (whole_record net held)) 0
  record_left = ap (λ (l : SearchLeft). l.out) (leaves-whole net held work out true limit lent (done_right net held work out true limit done).1) ∙ finished_out (stands net) out last fits

  pub words_fit : All (λ w. w < 2 ^ 64) (whole_record_words net held)
  words_fit =
      let ready = lent.network.ready in
      words_small vars_most size_most functions_most arity_most (2 ^ 64) (stands net) (costs_of net.constant held) (scoped_within (outline_of net) net.sizes net.scopes ready.scoped)
      (omega arith) (omega arith) (omega arith) (omega (arith, ready.top_most)) last.plan last.best last.steps (whole_answer net held work lent) (whole_keeps net held work lent)
      (omega arith) (omega (arith, words_count net held, bytes_of_many (whole_record_words net held), fits, slice))

  -- what is read in the buffer
  pub word-left : (w : ℕ) → word_at left.out w ≡ tells (whole_record_words net held) w
  word-left w =
      ap (λ (l : List ℕ). word_at l w) record_left ∙ word_front (whole_record net held) (out - length (whole_record net held)) w ∙ bytes_tell (whole_record_words net held) words_fit w

  abbrev before : List ℕ
  before = header_of net.vars (verdict_of net.top last.best) last.best (length last.plan) (length last.steps)

  pub count_own : CountsSteps left.out left.result.nodes
  count_own =
      let place : length (before ++ last.plan) ≡ header_words + length last.plan = omega arith in
      record {
        steps = last.steps;
        reads = subst (λ (f : ℕ → ℕ). Reads (step_at f) (f 7) (f 6) last.steps) (sym (fun_ext word-left)) (rw place at (reads_spell (before ++ last.plan) last.steps));
        count = (done_right net held work out true limit done).3.nodes ∙ whole_count net held work lent;
      }

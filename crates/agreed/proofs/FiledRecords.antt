-- A successful search leaves a record that the desk accepts. Assumes nothing.
use Rattle.std.proofs.Common.{ℕ, ◌-◌, ◌*◌, ◌^◌, ◌≤◌, ◌<◌, ◌≡◌, sym, ap, ◌∙◌, subst, true, List, arith, length, replicate}
use Rattle.std.proofs.Math.Path.{fun_ext}
use Rattle.costs.specs.declared.networks.Network.{Network}
use Rattle.answers.specs.Answers.{Done}
use Rattle.costs.specs.Net.{Net, Costs, All, costs_of}
use Rattle.costs.specs.Networks.{stands}
use Rattle.judging.proofs.JudgeLaws.{network_sound}
use Rattle.records.specs.Words.{word_bytes, tells, bytes_of}
use Rattle.records.specs.Records.{header_words, KeepsRules, KeptBy}
use Rattle.records.proofs.WordLaws.{bytes_of_many, bytes_tell}
use Rattle.desk.proofs.CheckIsTheRules.{kept_accepted}
use Rattle.engines.specs.declared.results.Searched.{Searched}
use Rattle.engines.specs.Results.{SearchLeft}
use Rattle.visiting.specs.FirstSearch.{whole_search}
use Rattle.search.specs.Doors.{search_leaves, whole_record, CountsSteps}
use Rattle.search.proofs.WholeSearch.{whole_answer, whole_keeps}
use Rattle.search.proofs.SearchIsRight.{done_right}
use Rattle.search.proofs.RecordLeft.{whole_record_words, words_count, record_left, words_fit, word-left, count_own}
use Rattle.agreed.specs.Filed.{Filed}
use Rattle.agreed.proofs.WrittenRecords.{written_keeps}

pub kept_bytes : (n : Net) (held : Costs) (ws : List ℕ) → All (λ w. w < 2 ^ 64) ws → header_words ≤ length ws → KeepsRules n held (tells ws) (length ws) → KeptBy n held (bytes_of ws)
kept_bytes n held ws small header rules = record {
  words = length ws;
  whole = bytes_of_many ws;
  header = header;
  rules = subst (λ (f : ℕ → ℕ). KeepsRules n held f (length ws)) (sym (fun_ext (bytes_tell ws small))) rules;
}

pub filed : (net : Network) (held : List ℕ) (work out limit : ℕ) → out < 2 ^ 64 → (search_leaves net held work out true limit).result.answer ≡ Done → Filed net held work (search_leaves net held work out true limit).out
filed net held work out limit slice done =
    let lent = (done_right net held work out true limit done).0 in
    let s = whole_search (stands net) (costs_of net.constant held) in
    let words = whole_record_words net held in
    let many = words_count net held in
    let long : length (whole_record net held) ≡ length words * word_bytes = bytes_of_many words in
    let sound = network_sound net held lent.network in
    let keeps = written_keeps (stands net) sound (costs_of net.constant held) s.plan s.best s.steps (whole_keeps net held work lent) (whole_answer net held work lent) in
    let kept = kept_bytes (stands net) (costs_of net.constant held) words (words_fit net held work out limit slice done) (omega (arith, many)) keeps in
    record {
      bytes = whole_record net held;
      behind = replicate (out - length (whole_record net held)) 0;
      there = record_left net held work out limit slice done;
      header = omega (arith, many, long);
      size = omega (arith, word-left net held work out limit slice done 6, word-left net held work out limit slice done 7, many, long);
      accepted = kept_accepted net held work (whole_record net held) lent kept;
    }

-- of what the call has left
pub filed_after : (net : Network) (held : List ℕ) (work out : ℕ) (work' o : List ℕ) (limit : ℕ) (r : Searched) → length work' ≡ work → out < 2 ^ 64
    → ◌≡◌ {A = SearchLeft} (record { result = r; out = o }) (search_leaves net held work out true limit) → r.answer ≡ Done → Filed net held (length work') o × CountsSteps o r.nodes
filed_after net held work out work' o limit r l few e d =
    let done = sym (ap (λ (x : SearchLeft). x.result.answer) e) ∙ d in (
      subst (λ (m : ℕ). Filed net held m o) (sym l) (subst (λ (x : SearchLeft). Filed net held work x.out) (sym e) (filed net held work out limit few done)),
      subst (λ (x : SearchLeft). CountsSteps x.out x.result.nodes) (sym e) (count_own net held work out limit few done),
    )

-- "each network of at most 4,294,967,296 plans has such a record": of the numbers and the table that calls are lent. Assumes nothing.
use Rattle.std.proofs.Common.{ℕ, ◌^◌, ◌≤◌, List, arith, length}
use Rattle.costs.specs.declared.networks.Network.{Network}
use Rattle.costs.specs.Net.{costs_of, plans}
use Rattle.costs.specs.Networks.{outline_of, stands}
use Rattle.judging.proofs.JudgeLaws.{network_sound}
use Rattle.judging.specs.Judging.{Lent}
use Rattle.passes.proofs.PassLength.{scoped_within}
use Rattle.records.specs.Words.{bytes_of}
use Rattle.records.specs.Records.{header_words, record_words}
use Rattle.records.proofs.WordLaws.{bytes_of_many, bytes_of_small}
use Rattle.desk.proofs.CheckIsTheRules.{kept_accepted}
use Rattle.agreed.specs.Filed.{AcceptedRecord}
use Rattle.agreed.proofs.RecordsExist.{recorded_01}
use Rattle.agreed.proofs.WrittenRecords.{written_keeps}
use Rattle.agreed.proofs.FiledRecords.{kept_bytes}

pub each_has_record : (net : Network) (held : List ℕ) (room : ℕ) → Lent net held room → plans (stands net) ≤ 2 ^ 32 → AcceptedRecord net held room
each_has_record net held room lent few =
    let ready = lent.network.ready in
    let sound = network_sound net held lent.network in
    let within = scoped_within (outline_of net) net.sizes net.scopes ready.scoped in
    let c = costs_of net.constant held in
    let r = recorded_01 (stands net) sound c ready.constant_most lent.network.top_some ready.top_most within few in
    let words : List ℕ = record_words (stands net) r.cost r.plan r.steps in
    let many : header_words ≤ length words = omega arith in
    let kept = kept_bytes (stands net) c words r.small many (written_keeps (stands net) sound c r.plan r.cost r.steps r.keeps r.answer) in
    record {
      bytes = bytes_of words;
      lendable = record { small = bytes_of_small words; few = omega (arith, bytes_of_many words, r.few) };
      kept = kept;
      accepted = kept_accepted net held room (bytes_of words) lent kept;
    }

-- Demand 3: what an accepted record claims is true, whoever wrote it. Assumes nothing.
use Rattle.std.proofs.Common.{ℕ, ◌≡◌, ◌⊎◌, List}
use Rattle.costs.specs.declared.networks.Network.{Network}
use Rattle.answers.specs.Answers.{Done}
use Rattle.costs.specs.Net.{costs_of}
use Rattle.costs.specs.Networks.{stands}
use Rattle.judging.proofs.JudgeLaws.{network_sound}
use Rattle.records.specs.Words.{word_at}
use Rattle.records.specs.Records.{told}
use Rattle.records.proofs.KeptRules.{kept_true}
use Rattle.costs.specs.Cheapest.{IsCheapest, NonePayable}
use Rattle.desk.specs.Checking.{checked}
use Rattle.desk.proofs.CheckIsTheRules.{accepted_kept}

-- verdict 0: the plan has the stated price, below k, and no plan is cheaper; verdict 1: every plan's price is k
pub accepted_true : (net : Network) (held : List ℕ) (room : ℕ) (bytes : List ℕ) → checked net held room bytes ≡ Done
    → ((word_at bytes 2 ≡ 0) × IsCheapest (stands net) (costs_of net.constant held) (told (word_at bytes)) (word_at bytes 3))
    ⊎ ((word_at bytes 2 ≡ 1) × NonePayable (stands net) (costs_of net.constant held))
accepted_true net held room bytes e =
    let h = accepted_kept net held room bytes e in
    kept_true (stands net) (network_sound net held h.0.network) (costs_of net.constant held) (word_at bytes) h.1.words h.1.rules

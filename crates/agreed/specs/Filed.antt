-- Records that the desk accepts: in the buffer that was lent for one, and as bytes.
use Rattle.std.specs.Prelude.{ℕ, ◌+◌, ◌*◌, ◌^◌, ◌≤◌, ◌<◌, ◌≡◌, List, ◌++◌, length}
use Rattle.costs.specs.declared.networks.Network.{Network}
use Rattle.answers.specs.Answers.{Done}
use Rattle.costs.specs.Net.{All, costs_of}
use Rattle.costs.specs.Networks.{stands}
use Rattle.records.specs.Words.{word_bytes, word_at}
use Rattle.records.specs.Steps.{step_words}
use Rattle.records.specs.Records.{header_words, KeptBy}
use Rattle.desk.specs.Checking.{checked}

-- the bytes of a record by its header: "offset of the steps, 8 + count; number of steps. Offsets count words."
abbrev pub size_told : List ℕ → ℕ
size_told out = (word_at out 6 + word_at out 7 * step_words) * word_bytes

-- a record that the desk accepts, lent so much working room, stands at the front of the buffer, and its header tells where it ends
pub record Filed (net : Network) (held : List ℕ) (room : ℕ) (out : List ℕ) : Type 0 where
  pub bytes : List ℕ
  pub behind : List ℕ
  pub there : out ≡ bytes ++ behind
  pub header : header_words * word_bytes ≤ length bytes
  pub size : size_told out ≡ length bytes
  pub accepted : checked net held room bytes ≡ Done

-- bytes that a slice can hold: each of eight bits, and at most isize::MAX of them
pub record Lendable (bytes : List ℕ) : Type 0 where
  pub small : All (λ b. b < 256) bytes
  pub few : length bytes < 2 ^ 63

-- a record that can be lent to the desk, that keeps the rules, and that the desk accepts
pub record AcceptedRecord (net : Network) (held : List ℕ) (room : ℕ) : Type 0 where
  pub bytes : List ℕ
  pub lendable : Lendable bytes
  pub kept : KeptBy (stands net) (costs_of net.constant held) bytes
  pub accepted : checked net held room bytes ≡ Done

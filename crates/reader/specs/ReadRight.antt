-- What stands after a successful read, and how a read may end.
use Rattle.std.specs.Prelude.{ℕ, ◌≤◌, ◌<◌, ◌≡◌, List, length, get_or}
use Rattle.answers.specs.Answers.{refusal_number}
use Rattle.answers.specs.declared.Refusal.{Refusal}
use Rattle.answers.specs.declared.Refusal.TheVariants.{LongText, ShortTable}
use Rattle.costs.specs.declared.networks.Network.{Network}
use Rattle.costs.specs.Net.{entries}
use Rattle.costs.specs.Networks.{stands}
use Rattle.judging.specs.Judging.{IsNetwork}
use Rattle.tokens.specs.Tokens.{text_of}
use Rattle.tokens.specs.Steps.{Got, got, refused}
use Rattle.placing.specs.Drafts.{Draft}
use Rattle.reader.specs.ReaderLimits.{text_most}
use Rattle.reader.specs.Reading.{network}
use Rattle.reader.specs.Said.{SaidBy}

-- the network and the table after a successful read of a text, beside the table before it
pub record ReadRight (text before : List ℕ) (net : Network) (after : List ℕ) : Type 0 where
  -- so no later call that is lent them answers 8, nor 7
  pub network : IsNetwork net after
  pub whole : entries (stands net) ≤ length after
  pub said : SaidBy text net after
  -- "Table entries past E are left alone by a successful read"
  pub past : (j : ℕ) → entries (stands net) ≤ j → get_or after j 0 ≡ get_or before j 0
  pub long : length after ≡ length before

-- 1 to 6 do not refuse the text
pub record Readable (text : List ℕ) (d : Draft) : Type 0 where
  pub short : length text ≤ text_most
  pub next : ℕ
  pub reads : network (text_of text) 0 ≡ got d next

-- how reading a text ends, beside a lent table of so many entries: g is the one of these that it is
pub data Ended (text : List ℕ) (room : ℕ) (g : Got Draft) : Type 0 where
  -- "text over 65,536 bytes"
  one : text_most < length text → g ≡ refused LongText → Ended text room g
  -- a token: 2 to 6
  token : length text ≤ text_most → (a : Refusal) → network (text_of text) 0 ≡ refused a → 2 ≤ refusal_number a → refusal_number a ≤ 6 → g ≡ refused a → Ended text room g
  -- "a lent table shorter than E"
  seven : (d : Draft) → Readable text d → room < entries (stands d.net) → g ≡ refused ShortTable → Ended text room g
  done : (d : Draft) (s : Readable text d) → entries (stands d.net) ≤ room → g ≡ got d s.next → Ended text room g

-- The whole text: "1 first; then the first offending token, lowest number first; 7 last".
use Rattle.std.specs.Prelude.{ℕ, Err, ◌*◌, cond, List, ◌++◌, leb, length, drop, replicate}
use Rattle.costs.specs.Limits.{vars_most, row_places, functions_most}
use Rattle.costs.specs.declared.networks.Network.{Network}
use Rattle.answers.specs.Answers.{Done}
use Rattle.answers.specs.declared.Refusal.TheVariants.{LongText, ShortTable}
use Rattle.tokens.specs.Tokens.{text_of}
use Rattle.tokens.specs.Steps.{Got, got, refused, Reads, ◌>>=◌, ◌>>◌, pure}
use Rattle.tokens.specs.Words.{finish}
use Rattle.reader.specs.ReaderLimits.{text_most}
use Rattle.headings.specs.Headers.{header}
use Rattle.headings.specs.Domains.{Sized, domains}
use Rattle.placing.specs.Drafts.{Draft}
use Rattle.functions.specs.Functions.{functions}
use Rattle.headings.specs.declared.headers.Head.{Head}
use Rattle.reader.specs.declared.reading.Reading.{Reading}

-- no function yet: every cost is 0
abbrev pub started : Head → Sized → Draft
started head sized = record {
  net = record {
    top = head.top;
    constant = 0;
    vars = head.vars;
    sizes = sized.sizes;
    functions = 0;
    scopes = replicate (functions_most * row_places) 0;
    starts = replicate functions_most 0;
  };
  table = replicate sized.entries 0;
}

-- what follows the sizes
unfoldable pub rest : Head → Sized → Reads Draft
rest head sized = do
  d ← functions head.functions (started head sized)
  finish
  pure d

-- what follows the header
unfoldable pub body : Head → Reads Draft
body head = do
  sized ← domains head.greatest head.vars 0 0 0 (replicate vars_most 0)
  rest head sized

unfoldable pub network : Reads Draft
network = do
  head ← header
  body head

-- "a lent table shorter than E": 7
abbrev pub fitted : ℕ → Got Draft → Got Draft
fitted room (got d next) = cond (leb (length d.table) room) (got d next) (refused ShortTable)
fitted room (refused refusal) = refused refusal

-- what reading a text gives, beside a lent table of so many entries
unfoldable pub reading : List ℕ → ℕ → Got Draft
reading text room = cond (leb (length text) text_most) (fitted room (network (text_of text) 0)) (refused LongText)

abbrev pub no_network : Network
no_network = record {
  top = 0;
  constant = 0;
  vars = 0;
  sizes = replicate vars_most 0;
  functions = 0;
  scopes = replicate (functions_most * row_places) 0;
  starts = replicate functions_most 0;
}

-- the answer and the network: "Beside a refusal and its place, everything returned is zero"
abbrev pub answered : Got Draft → Reading
answered (got d next) = record { answer = Done; network = d.net }
answered (refused refusal) = record { answer = Err refusal; network = no_network }

-- the lent table then: "A refused read .. leaves zeros throughout"; "Table entries past E are left alone by a successful read"
abbrev pub table_after : Got Draft → List ℕ → List ℕ
table_after (got d next) table = d.table ++ drop (length d.table) table
table_after (refused refusal) table = replicate (length table) 0

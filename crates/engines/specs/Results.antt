-- What a search hands back, and what the record's buffer then holds.
use Rattle.std.specs.Prelude.{ℕ, ◌-◌, min, Bool, true, false, cond, List, [], ◌++◌, leb, length, replicate, Err, Ok}
use Rattle.answers.specs.Answers.{Answer, Done}
use Rattle.answers.specs.declared.Refusal.TheVariants.{LongRecord}
use Rattle.costs.specs.declared.networks.Network.{Network}
use Rattle.costs.specs.declared.plans.Plan.{Plan}
use Rattle.costs.specs.Limits.{vars_most}
use Rattle.costs.specs.Net.{Net}
use Rattle.costs.specs.Networks.{stands}
use Rattle.judging.specs.Judging.{judged, refusal_of, Judgement}
use Rattle.records.specs.Words.{bytes_of}
use Rattle.records.specs.Records.{record_words}
use Rattle.engines.specs.declared.results.Searched.{Searched}
use Rattle.engines.specs.Engines.{State, refuses}

-- what is handed back, and the record's buffer
pub record SearchLeft : Type 0 where
  pub result : Searched
  pub out : List ℕ

-- "Places past a count are 0 in a returned plan"
abbrev pub planned : List ℕ → Plan
planned values = record { choice = values ++ replicate (vars_most - length values) 0; len = length values }

abbrev pub refused_search : Answer → Searched
refused_search a = record { answer = a; cost = 0; plan = planned []; nodes = 0 }

abbrev pub finished_search : List ℕ → ℕ → ℕ → Searched
finished_search values cost nodes = record { answer = Done; cost = cost; plan = planned values; nodes = nodes }

-- the whole record
abbrev pub record_bytes : Net → State → List ℕ
record_bytes n s = bytes_of (record_words n s.best s.plan s.steps)

-- "A refused read, pass or search leaves zeros throughout every buffer lent for writing."
abbrev pub refused_left : ℕ → Answer → SearchLeft
refused_left room a = record { result = refused_search a; out = replicate room 0 }

-- 12, "whole record longer than the lent buffer, a record being asked for". "A finished search leaves zeros" "after the record (throughout the record
-- buffer if no record was asked for)"
abbrev pub finished_left : Net → Bool → ℕ → State → SearchLeft
finished_left n true room s =
    cond (leb (length (record_bytes n s)) room)
    (record { result = finished_search s.plan s.best s.count; out = record_bytes n s ++ replicate (room - length (record_bytes n s)) 0 })
    (refused_left room (Err LongRecord))
finished_left n false room s = record { result = finished_search s.plan s.best s.count; out = replicate room 0 }

-- a search that a gate has ended is refused: 11, "more nodes needed than the budget"
abbrev pub ended_left : Net → Bool → ℕ → State → SearchLeft
ended_left n asked room s = cond (refuses s.ended) (refused_left room s.ended) (finished_left n asked room s)

abbrev pub judged_left : Judgement → ℕ → SearchLeft → SearchLeft
judged_left (Ok o) room l = l
judged_left (Err why) room l = refused_left room (refusal_of why)

-- what a call leaves that judges the network and then searches it, from the state that its search ends in: `work` and `out` are the lengths of the working
-- table and of the record's buffer
unfoldable pub leaves_of : Network → List ℕ → ℕ → ℕ → Bool → State → SearchLeft
leaves_of net held work out asked s = judged_left (judged net held (min (length held) work)) out (ended_left (stands net) asked out s)

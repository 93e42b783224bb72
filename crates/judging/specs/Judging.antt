-- Refusals 8 and 7. "A network, for 8, has ranges, scopes, stretches and costs as this paper says"; "8, 7, then the rest in table order".
use Rattle.std.specs.Prelude.{ℕ, ◌≤◌, ◌<◌, min, Bool, cond, ◌&&◌, List, leb, ltb, eqb, length, get_or, Err, Result, Ok}
use Rattle.answers.specs.Answers.{Answer}
use Rattle.answers.specs.declared.Refusal.TheVariants.{ShortTable, NotNetwork}
use Rattle.costs.specs.declared.networks.Network.{Network}
use Rattle.costs.specs.Limits.{vars_most, size_most, arity_most, functions_most, cost_most, entries_most}
use Rattle.costs.specs.Range.{all_to}
use Rattle.costs.specs.Net.{entries}
use Rattle.costs.specs.Tests.{between, every, different, Different}
use Rattle.costs.specs.Networks.{Outline, in_row, scope_in, function_start, outline_of, stands, Ready}
use Rattle.judging.specs.declared.Unfit.{Unfit}
use Rattle.judging.specs.declared.Unfit.TheVariants.{NoNetwork, TooShort}

-- k, the constant, N and the number of functions are in range
unfoldable pub ranges_good : ℕ → ℕ → ℕ → ℕ → Bool
ranges_good top constant vars functions = between 1 cost_most top && (leb constant top && (leb vars vars_most && leb functions functions_most))

unfoldable pub sizes_good : ℕ → List ℕ → Bool
sizes_good vars sizes = all_to vars (λ v. between 1 size_most (get_or sizes v 0))

-- "that many different variable numbers": each known, none twice
unfoldable pub variables_good : ℕ → List ℕ → Bool
variables_good vars vs = every (λ v. ltb v vars) vs && different vs

-- a numbered function has arity 2 or 3 and so many different variables
unfoldable pub row_good : ℕ → (ℕ → ℕ) → Bool
row_good vars row = between 2 arity_most (row 0) && variables_good vars (scope_in row)

unfoldable pub scopes_good : ℕ → ℕ → List ℕ → Bool
scopes_good vars functions rows = all_to functions (λ f. row_good vars (in_row rows f))

-- each function's stretch begins where the paper puts it
unfoldable pub stretches_good : ℕ → ℕ → List ℕ → List ℕ → List ℕ → Bool
stretches_good vars functions sizes rows starts = all_to functions (λ f. eqb (get_or starts f 0) (function_start vars sizes rows f))

-- "in a table shorter than E, 8 judges the costs that are there"
unfoldable pub costs_good : ℕ → ℕ → List ℕ → Bool
costs_good top many t = all_to (min many (length t)) (λ j. leb (get_or t j 0) top)

-- the lent numbers, beside a table, are a network
unfoldable pub is_network : Network → List ℕ → Bool
is_network net t =
    ranges_good net.top net.constant net.vars net.functions
    && (sizes_good net.vars net.sizes
    && (scopes_good net.vars net.functions net.scopes
    && (stretches_good net.vars net.functions net.sizes net.scopes net.starts
    && (leb (entries (stands net)) entries_most
    && costs_good net.top (entries (stands net)) t))))

-- the same as facts
pub record IsNetwork (net : Network) (t : List ℕ) : Type 0 where
  pub top_some : 1 ≤ net.top
  pub ready : Ready (outline_of net) net.sizes net.scopes net.starts
  pub distinct : (f : ℕ) → f < net.functions → Different (scope_in (in_row net.scopes f))
  pub costs : (j : ℕ) → j < entries (stands net) → j < length t → get_or t j 0 ≤ net.top

-- the network's outline, or why it is refused
abbrev pub Judgement : Type 0
Judgement = Result Outline Unfit

-- 8, then 7: `room` is the length of the shortest table lent. Where neither is given, the network's outline
unfoldable pub judged : Network → List ℕ → ℕ → Judgement
judged net t room =
    cond (is_network net t)
    (cond (leb (entries (stands net)) room) (Ok (outline_of net)) (Err TooShort))
    (Err NoNetwork)

-- the answer of a refusal of the judge's
abbrev pub refusal_of : Unfit → Answer
refusal_of NoNetwork = Err NotNetwork
refusal_of TooShort = Err ShortTable

-- "Lent working room enough": a network with its held costs, and neither table is shorter than E
pub record Lent (net : Network) (held : List ℕ) (room : ℕ) : Type 0 where
  pub network : IsNetwork net held
  pub held_whole : entries (stands net) ≤ length held
  pub room_enough : entries (stands net) ≤ room

-- "Asked for the held or the worked costs of a function, the desk shows that stretch of the lent table itself, and nothing of its neighbours; an unknown
-- function, either table shorter than E, or numbers that with either table are not a network show an empty part."
use Rattle.std.specs.Prelude.{ℕ, ◌+◌, Bool, cond, ◌&&◌, List, [], leb, ltb, length, take, drop}
use Rattle.costs.specs.declared.networks.Network.{Network}
use Rattle.costs.specs.Net.{Net, tuples, start, entries}
use Rattle.costs.specs.Networks.{stands}
use Rattle.judging.specs.Judging.{is_network}
use Rattle.showing.specs.declared.Which.{Which}
use Rattle.showing.specs.declared.Which.TheVariants.{Held, Worked}

-- the stretch of part s
abbrev pub stretch : Net → ℕ → List ℕ → List ℕ
stretch n s t = take (tuples n.size (n.scope s)) (drop (start n s) t)

abbrev pub table_of : Which → List ℕ → List ℕ → List ℕ
table_of Held held worked = held
table_of Worked held worked = worked

-- the numbers are a network with this table, and it is not shorter than E
unfoldable pub whole_with : Network → List ℕ → Bool
whole_with net t = is_network net t && leb (entries (stands net)) (length t)

unfoldable pub may_show : Network → List ℕ → List ℕ → ℕ → Bool
may_show net held worked f = whole_with net held && (whole_with net worked && ltb f net.functions)

unfoldable pub shown_part : Network → List ℕ → List ℕ → Which → ℕ → List ℕ
shown_part net held worked which f = cond (may_show net held worked f) (stretch (stands net) (net.vars + f) (table_of which held worked)) []

-- Ties: what the judge finds on its way along the stretches.
use Rattle.std.specs.Prelude.{ℕ, cond, List, Option, Some, None}
use Rattle.costs.specs.Networks.{entries_of}
use Rattle.judging.specs.Judging.{stretches_good}

-- where the last stretch ends, and so how many entries there are, where each begins where the paper puts it
unfoldable pub stretched : ℕ → ℕ → List ℕ → List ℕ → List ℕ → Option ℕ
stretched vars functions sizes rows starts = cond (stretches_good vars functions sizes rows starts) (Some (entries_of vars functions sizes rows)) None

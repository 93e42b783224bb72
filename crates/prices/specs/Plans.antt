-- Plans beside a network: refusal 9.
use Rattle.std.specs.Prelude.{ℕ, not, List, ltb, get_or}
use Rattle.costs.specs.Range.{first_to}

-- the first variable whose value is not below its size, or their number
abbrev pub first_bad : ℕ → List ℕ → List ℕ → ℕ
first_bad vars sizes choice = first_to vars (λ v. not (ltb (get_or choice v 0) (get_or sizes v 0)))

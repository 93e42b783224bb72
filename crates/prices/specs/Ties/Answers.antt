-- Ties: how the code's answers on the way stand for what `price` answers.
use Rattle.std.specs.Prelude.{ℕ, cond, List, ltb, Option, Some, None, Result, Ok, Err}
use Rattle.answers.specs.declared.Refusal.{Refusal}
use Rattle.prices.specs.declared.prices.Priced.{Priced}
use Rattle.prices.specs.Plans.{first_bad}
use Rattle.prices.specs.Prices.{refused_price}

-- the first bad variable, where there is one
abbrev pub bad_value : ℕ → List ℕ → List ℕ → Option ℕ
bad_value vars sizes choice = cond (ltb (first_bad vars sizes choice) vars) (Some (first_bad vars sizes choice)) None

-- the price answer, or one that only refuses
abbrev pub answered : Result Priced Refusal → Priced
answered (Ok done) = done
answered (Err why) = refused_price (Err why)

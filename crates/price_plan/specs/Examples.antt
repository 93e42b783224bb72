-- Lines of price answers, computed from the definitions.
use Rattle.std.specs.Prelude.{◌≡◌, refl, [], ◌∷◌, Err}
use Rattle.answers.specs.Answers.{Done}
use Rattle.answers.specs.declared.Refusal.TheVariants.{BadPlan}
use Rattle.prices.specs.declared.breaks.Break.TheVariants.{Nowhere, Constant, Unary, Function}
use Rattle.lines.specs.Numerals.{shortest}
use Rattle.price_plan.specs.PriceLine.{price_line}

-- "Network A, plan 110: .. function 1": `price 10 at function 1`
line_110 : price_line (record { answer = Done; price = 10; broke = Function 1 }) ≡ 112 ∷ 114 ∷ 105 ∷ 99 ∷ 101 ∷ 32 ∷ 49 ∷ 48 ∷ 32 ∷ 97 ∷ 116 ∷ 32 ∷ 102 ∷ 117 ∷ 110 ∷ 99 ∷ 116 ∷ 105 ∷ 111 ∷ 110 ∷ 32 ∷ 49 ∷ 10 ∷ []
unfolding shortest
line_110 = refl

-- `price 5`
line_5 : price_line (record { answer = Done; price = 5; broke = Nowhere }) ≡ 112 ∷ 114 ∷ 105 ∷ 99 ∷ 101 ∷ 32 ∷ 53 ∷ 10 ∷ []
unfolding shortest
line_5 = refl

-- `price 10 at constant`, `price 10 at unary 2`
line_constant : price_line (record { answer = Done; price = 10; broke = Constant }) ≡ 112 ∷ 114 ∷ 105 ∷ 99 ∷ 101 ∷ 32 ∷ 49 ∷ 48 ∷ 32 ∷ 97 ∷ 116 ∷ 32 ∷ 99 ∷ 111 ∷ 110 ∷ 115 ∷ 116 ∷ 97 ∷ 110 ∷ 116 ∷ 10 ∷ []
unfolding shortest
line_constant = refl

line_unary : price_line (record { answer = Done; price = 10; broke = Unary 2 }) ≡ 112 ∷ 114 ∷ 105 ∷ 99 ∷ 101 ∷ 32 ∷ 49 ∷ 48 ∷ 32 ∷ 97 ∷ 116 ∷ 32 ∷ 117 ∷ 110 ∷ 97 ∷ 114 ∷ 121 ∷ 32 ∷ 50 ∷ 10 ∷ []
unfolding shortest
line_unary = refl

-- `refused 9 at 0`
line_refused : price_line (record { answer = Err (BadPlan 0); price = 0; broke = Nowhere }) ≡ 114 ∷ 101 ∷ 102 ∷ 117 ∷ 115 ∷ 101 ∷ 100 ∷ 32 ∷ 57 ∷ 32 ∷ 97 ∷ 116 ∷ 32 ∷ 48 ∷ 10 ∷ []
unfolding shortest
line_refused = refl

-- The cases of document 01, "Reckoned by hand", that are marked P: twelve, established together.
use Rattle.std.specs.Prelude.{ℕ, ◌≡◌, refl, List, [], ◌∷◌, map}
use Rattle.answers.specs.Answers.{number_of, place_of}
use Rattle.costs.specs.declared.networks.Network.{Network}
use Rattle.costs.specs.Limits.{vars_most}
use Rattle.costs.specs.Cost.{minus}
use Rattle.costs.specs.Net.{price}
use Rattle.costs.specs.PaperNetworks.{padded, numbered, network_a, table_a}
use Rattle.judging.specs.Judging.{judged, is_network, ranges_good, sizes_good, variables_good, row_good, scopes_good, stretches_good, costs_good}
use Rattle.prices.specs.Prices.{priced, plan_priced}
use Rattle.boxes.specs.Places.{in_stretch}
use Rattle.shifts.specs.declared.nodes.Node.{Node}
use Rattle.shifts.specs.declared.moves.Move.{Move}
use Rattle.shifts.specs.declared.moves.Move.TheVariants.{Project, Extend}
use Rattle.shifts.specs.Nodes.{fixing, node_good}
use Rattle.shifts.specs.Moves.{shifted, gives, is_legal}
use Rattle.shifts.specs.Doors.{tried, shift_leaves}

-- k is 10 and the constant 4. One function over variable 0, of one value, and variables 1 and 2, of two: so its four tuples are those with value 0 at variable 0
abbrev network_s : Network
network_s = numbered 10 4 (1 ∷ 2 ∷ 2 ∷ []) (3 ∷ 0 ∷ 1 ∷ 2 ∷ []) (5 ∷ [])

-- variable 2 is fixed to 0: two of the tuples are live
abbrev node_s : Node
node_s = record { fixed = padded vars_most (0 ∷ 0 ∷ 1 ∷ []) }

-- variable 0's unary cost and the two live costs; the dead costs are 2, less than any amount below, and past E stands an entry that is nobody's
abbrev table_s : ℕ → ℕ → ℕ → List ℕ
table_s unary x y = unary ∷ 0 ∷ 0 ∷ 0 ∷ 0 ∷ x ∷ 2 ∷ y ∷ 2 ∷ 99 ∷ []

data Case : Type 0 where
  price_of : List ℕ → Case
  shift_of : Move → List ℕ → Case

-- the number of the refusal, 0 for none, and its place; then the price, or the constant and the whole table
abbrev outcome : Case → List ℕ
outcome (price_of choice) =
    let r = priced network_a table_a (record { choice = padded vars_most choice; len = 3 }) in
    number_of r.answer ∷ place_of r.answer ∷ r.price ∷ []
outcome (shift_of x t) =
    let r = shift_leaves network_s t node_s x in
    number_of r.answer ∷ place_of r.answer ∷ r.costs.constant ∷ map r.costs.at (0 ∷ 1 ∷ 2 ∷ 3 ∷ 4 ∷ 5 ∷ 6 ∷ 7 ∷ 8 ∷ 9 ∷ [])

record Row : Type 0 where
  asked : Case
  comes : List ℕ

abbrev row : Case → List ℕ → Row
row x y = record { asked = x; comes = y }

abbrev priced_at : ℕ → List ℕ
priced_at price = 0 ∷ 0 ∷ price ∷ []

-- a shift leaves the constant alone where it is no RAISE
abbrev shifted_to : List ℕ → List ℕ
shifted_to t = 0 ∷ 0 ∷ 4 ∷ t

-- "Beside a refusal and its place, everything returned is zero."
abbrev refused_with : ℕ → List ℕ → List ℕ
refused_with number t = number ∷ 0 ∷ 0 ∷ t

-- "Prices, marked P: 000 6; 001 6; 010 5; 011 1; 100 4; 101 4; 110 10 (13 capped); 111 9."
-- "Shifts with k = 10, marked P: live costs 7 and 10, unary 0, project 7: left 0 and 10, unary 7. Same, project 8: refused 10. Unary 6, project 7: unary 10.
-- Unary 3, function costs 8 and 0, extend 3: unary 0, costs 10 and 3."
abbrev marked : List Row
marked =
    row (price_of (0 ∷ 0 ∷ 0 ∷ [])) (priced_at 6)
    ∷ row (price_of (0 ∷ 0 ∷ 1 ∷ [])) (priced_at 6)
    ∷ row (price_of (0 ∷ 1 ∷ 0 ∷ [])) (priced_at 5)
    ∷ row (price_of (0 ∷ 1 ∷ 1 ∷ [])) (priced_at 1)
    ∷ row (price_of (1 ∷ 0 ∷ 0 ∷ [])) (priced_at 4)
    ∷ row (price_of (1 ∷ 0 ∷ 1 ∷ [])) (priced_at 4)
    ∷ row (price_of (1 ∷ 1 ∷ 0 ∷ [])) (priced_at 10)
    ∷ row (price_of (1 ∷ 1 ∷ 1 ∷ [])) (priced_at 9)
    ∷ row (shift_of (Project 0 0 0 7) (table_s 0 7 10)) (shifted_to (table_s 7 0 10))
    ∷ row (shift_of (Project 0 0 0 8) (table_s 0 7 10)) (refused_with 10 (table_s 0 7 10))
    ∷ row (shift_of (Project 0 0 0 7) (table_s 6 7 10)) (shifted_to (table_s 10 0 10))
    ∷ row (shift_of (Extend 0 0 0 3) (table_s 3 8 0)) (shifted_to (table_s 0 10 3))
    ∷ []

-- the written rules give each case what stands beside it
marked_p : map (λ (r : Row). outcome r.asked) marked ≡ map (λ (r : Row). r.comes) marked
unfolding priced plan_priced judged is_network ranges_good sizes_good variables_good row_good scopes_good stretches_good costs_good price shift_leaves tried shifted is_legal gives in_stretch fixing node_good minus
marked_p = refl

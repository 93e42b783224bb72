-- The pass at two nodes of one network, computed from the definitions: its shifts in order and the costs that they lead to.
use Rattle.std.specs.Prelude.{ℕ, ◌≡◌, refl, List, [], ◌∷◌, map}
use Rattle.costs.specs.declared.networks.Network.{Network}
use Rattle.costs.specs.Limits.{vars_most}
use Rattle.costs.specs.Cost.{minus}
use Rattle.costs.specs.Net.{costs_of}
use Rattle.costs.specs.Networks.{stands}
use Rattle.costs.specs.PaperNetworks.{padded, numbered}
use Rattle.boxes.specs.Places.{in_stretch}
use Rattle.shifts.specs.declared.moves.Move.TheVariants.{Project, Raise}
use Rattle.shifts.specs.Nodes.{live_at, fixing, least}
use Rattle.shifts.specs.Moves.{shifted}
use Rattle.passes.specs.Passing.{Work, pass}

-- one function over two variables of two values each, k = 10
abbrev network : Network
network = numbered 10 1 (2 ∷ 2 ∷ []) (2 ∷ 0 ∷ 1 ∷ 0 ∷ []) (4 ∷ [])

-- no unary costs; the function's are 3 5, then 4 7
abbrev held : List ℕ
held = 0 ∷ 0 ∷ 0 ∷ 0 ∷ 3 ∷ 5 ∷ 4 ∷ 7 ∷ []

abbrev pass_at : List ℕ → Work
pass_at fixed = pass (stands network) (live_at network (record { fixed = padded vars_most fixed })) (costs_of network.constant held)

-- the constant, then the table
abbrev left : Work → List ℕ
left w = w.costs.constant ∷ map w.costs.at (0 ∷ 1 ∷ 2 ∷ 3 ∷ 4 ∷ 5 ∷ 6 ∷ 7 ∷ [])

-- with both variables free, "each variable of its scope in order, each live value ascending", and the raises last
free : (pass_at []).shifts ≡ Project 0 0 0 3 ∷ Project 0 0 1 4 ∷ Project 0 1 1 2 ∷ Raise 0 3 ∷ []
unfolding pass shifted in_stretch minus fixing least
free = refl

free_left : left (pass_at []) ≡ 4 ∷ 0 ∷ 1 ∷ 0 ∷ 2 ∷ 0 ∷ 0 ∷ 0 ∷ 1 ∷ []
unfolding pass shifted in_stretch minus fixing least
free_left = refl

-- with variable 1 fixed to 1 the dead costs 3 and 4 are neither looked at nor moved
fixed : (pass_at (0 ∷ 2 ∷ [])).shifts ≡ Project 0 0 0 5 ∷ Project 0 0 1 7 ∷ Raise 0 5 ∷ []
unfolding pass shifted in_stretch minus fixing least
fixed = refl

fixed_left : left (pass_at (0 ∷ 2 ∷ [])) ≡ 6 ∷ 0 ∷ 2 ∷ 0 ∷ 0 ∷ 3 ∷ 0 ∷ 4 ∷ 0 ∷ []
unfolding pass shifted in_stretch minus fixing least
fixed_left = refl

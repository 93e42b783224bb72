-- Parts of network A's table of document 01, shown by the definitions.
use Rattle.std.specs.Prelude.{◌≡◌, refl, [], ◌∷◌, set}
use Rattle.costs.specs.PaperNetworks.{network_a, table_a}
use Rattle.judging.specs.Judging.{judged, is_network, ranges_good, sizes_good, variables_good, row_good, scopes_good, stretches_good, costs_good}
use Rattle.showing.specs.declared.Which.TheVariants.{Held, Worked}
use Rattle.showing.specs.Showing.{whole_with, may_show, shown_part}

-- the costs of A's function 1, in a worked table too, and nothing of an unknown function or beside a table that is too short
shown_a : shown_part network_a table_a table_a Held 1 ∷ shown_part network_a table_a (set table_a 12 9) Worked 1 ∷ shown_part network_a table_a table_a Held 2 ∷ shown_part network_a table_a (4 ∷ []) Held 1 ∷ []
    ≡ (0 ∷ 0 ∷ 4 ∷ 0 ∷ []) ∷ (0 ∷ 0 ∷ 9 ∷ 0 ∷ []) ∷ [] ∷ [] ∷ []
unfolding shown_part may_show whole_with judged is_network ranges_good sizes_good variables_good row_good scopes_good stretches_good costs_good
shown_a = refl

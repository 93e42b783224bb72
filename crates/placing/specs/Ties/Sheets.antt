-- Ties: how the code holds a draft, on a sheet.
use Rattle.std.specs.Prelude.{◌≡◌, ℕ, List, ◌++◌, length, take}
use Rattle.placing.specs.Drafts.{Draft, with_function}
use Rattle.placing.specs.declared.Sheet.{Sheet}

-- the network so far, and the entries so far of a table with room for more
abbrev pub drafted : Sheet → Draft
drafted s = record { net = s.network; table = take s.entries s.table }

-- a function with a number of its own: a row, and a stretch that begins where the entries so far end
abbrev pub numbered : Draft → List ℕ → List ℕ → Draft
numbered d xs cs = record { net = with_function d.net xs (length d.table); table = d.table ++ cs }

-- the sizes, N and k are what they were
abbrev pub Stays : Sheet → Sheet → Type 0
Stays old new = (new.network.sizes ≡ old.network.sizes) × (new.network.vars ≡ old.network.vars) × (new.network.top ≡ old.network.top)

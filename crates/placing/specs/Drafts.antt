-- The draft of a network: what functions have given it so far, and where the costs of the next belong.
use Rattle.std.specs.Prelude.{ℕ, ◌+◌, ◌*◌, List, [], ◌∷◌, ◌++◌, length, get_or, take, drop, set}
use Rattle.costs.specs.Limits.{row_places}
use Rattle.costs.specs.Cost.{plus}
use Rattle.costs.specs.Range.{sum_to}
use Rattle.costs.specs.declared.networks.Network.{Network}
use Rattle.costs.specs.Networks.{with_constant}

-- the network so far, and the E entries of its table
pub record Draft : Type 0 where
  pub net : Network
  pub table : List ℕ

-- costs ⊕-added one by one
unfoldable pub sums : ℕ → List ℕ → List ℕ → List ℕ
sums top [] cs = []
sums top (x ∷ xs) cs = plus top x (get_or cs 0 0) ∷ sums top xs (drop 1 cs)

-- "first the unary stretches by variable"
abbrev pub unary_start : List ℕ → ℕ → ℕ
unary_start sizes x = sum_to x (λ v. get_or sizes v 0)

-- a table with so many costs ⊕-added from `start` on
abbrev pub added_at : ℕ → ℕ → ℕ → List ℕ → List ℕ → List ℕ
added_at top start many cs table = take start table ++ (sums top (take many (drop start table)) cs ++ drop (start + many) table)

-- function f's row: its arity, then its variables
abbrev pub row_set : List ℕ → ℕ → List ℕ → List ℕ
row_set rows f xs =
    set (set (set (set rows (f * row_places) (length xs)) (f * row_places + 1) (get_or xs 0 0)) (f * row_places + 2) (get_or xs 1 0)) (f * row_places + 3) (get_or xs 2 0)

-- "Functions of arity 2 and 3 are numbered from 0 among themselves in text order"
abbrev pub with_function : Network → List ℕ → ℕ → Network
with_function net xs start = record {
  top = net.top;
  constant = net.constant;
  vars = net.vars;
  sizes = net.sizes;
  functions = net.functions + 1;
  scopes = row_set net.scopes net.functions xs;
  starts = set net.starts net.functions start;
}

-- "Costs of arity 0 are ⊕-summed into one constant, costs of arity 1 into one cost per variable and value"; the others fill a stretch of their own
abbrev pub put : Draft → List ℕ → List ℕ → Draft
put d [] cs = record { net = with_constant d.net (plus d.net.top d.net.constant (get_or cs 0 0)); table = d.table }
put d (x ∷ []) cs = record { net = d.net; table = added_at d.net.top (unary_start d.net.sizes x) (get_or d.net.sizes x 0) cs d.table }
put d (x ∷ y ∷ zs) cs = record { net = with_function d.net (x ∷ y ∷ zs) (length d.table); table = d.table ++ cs }

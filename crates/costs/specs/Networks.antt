-- How the struct stands for a network. What is said of a network speaks of places below its counts alone.
use Rattle.std.specs.Prelude.{ℕ, ◌+◌, ◌-◌, ◌*◌, ◌≤◌, ◌<◌, ◌≡◌, cond, List, [], ◌∷◌, ltb, get_or, take}
use Rattle.costs.specs.declared.networks.Network.{Network}
use Rattle.costs.specs.Limits.{vars_most, size_most, arity_most, row_places, functions_most, cost_most, entries_most}
use Rattle.costs.specs.Net.{Net, All, start_of, entries}

-- the numbers of a network that always travel together: k, the constant among the held costs, N, how many functions are numbered, and E
pub record Outline : Type 0 where
  pub top : ℕ
  pub constant : ℕ
  pub vars : ℕ
  pub functions : ℕ
  pub entries : ℕ

-- place j of function f's row: its arity at 0, then its variables
abbrev pub in_row : List ℕ → ℕ → ℕ → ℕ
in_row rows f j = get_or rows (f * row_places + j) 0

-- as many of a row's three variables as its arity says
abbrev pub scope_in : (ℕ → ℕ) → List ℕ
scope_in row = take (row 0) (row 1 ∷ row 2 ∷ row 3 ∷ [])

-- part s's scope: of a variable's unary costs the variable alone, then the functions' by number
abbrev pub scopes_of : ℕ → List ℕ → ℕ → List ℕ
scopes_of vars rows s = cond (ltb s vars) (s ∷ []) (scope_in (in_row rows (s - vars)))

abbrev pub sizes_of : List ℕ → ℕ → ℕ
sizes_of sizes v = get_or sizes v 0

-- the network of an outline, beside the sizes and the rows of the scopes
abbrev pub net_of : Outline → List ℕ → List ℕ → Net
net_of o sizes rows = record {
  top = o.top;
  vars = o.vars;
  parts = o.vars + o.functions;
  size = sizes_of sizes;
  scope = scopes_of o.vars rows;
}

-- where function f's stretch begins
abbrev pub function_start : ℕ → List ℕ → List ℕ → ℕ → ℕ
function_start vars sizes rows f = start_of (sizes_of sizes) (scopes_of vars rows) (vars + f)

-- how many entries the sizes and the scopes of so many variables and functions have
abbrev pub entries_of : ℕ → ℕ → List ℕ → List ℕ → ℕ
entries_of vars functions sizes rows = start_of (sizes_of sizes) (scopes_of vars rows) (vars + functions)

abbrev pub outline_of : Network → Outline
outline_of net = record {
  top = net.top;
  constant = net.constant;
  vars = net.vars;
  functions = net.functions;
  entries = entries_of net.vars net.functions net.sizes net.scopes;
}

-- the network that a struct stands for
abbrev pub stands : Network → Net
stands net = net_of (outline_of net) net.sizes net.scopes

-- the same network with another constant
abbrev pub with_constant : Network → ℕ → Network
with_constant net constant = record {
  top = net.top;
  constant = constant;
  vars = net.vars;
  sizes = net.sizes;
  functions = net.functions;
  scopes = net.scopes;
  starts = net.starts;
}

-- what the sizes and the scopes of a network have
pub record Scoped (vars functions : ℕ) (sizes rows : List ℕ) : Type 0 where
  pub vars_few : vars ≤ vars_most
  pub functions_few : functions ≤ functions_most
  pub sized : (v : ℕ) → v < vars → 0 < get_or sizes v 0
  pub small : (v : ℕ) → v < vars → get_or sizes v 0 ≤ size_most
  pub arity_least : (f : ℕ) → f < functions → 2 ≤ in_row rows f 0
  pub arity_at_most : (f : ℕ) → f < functions → in_row rows f 0 ≤ arity_most
  pub known : (f : ℕ) → f < functions → All (λ v. v < vars) (scope_in (in_row rows f))

-- and the whole, beside where its functions' stretches begin
pub record Ready (o : Outline) (sizes rows starts : List ℕ) : Type 0 where
  pub top_most : o.top ≤ cost_most
  pub constant_most : o.constant ≤ o.top
  pub scoped : Scoped o.vars o.functions sizes rows
  pub placed : (f : ℕ) → f < o.functions → get_or starts f 0 ≡ function_start o.vars sizes rows f
  pub entries_is : o.entries ≡ entries (net_of o sizes rows)
  pub few : entries (net_of o sizes rows) ≤ entries_most

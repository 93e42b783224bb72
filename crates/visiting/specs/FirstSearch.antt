-- "The search", as document 01 words it.
use Rattle.std.specs.Prelude.{ℕ, Bool, cond, not, [], ◌∷◌, ◌++◌, map, leb, ltb}
use Rattle.costs.specs.Range.{first_to}
use Rattle.costs.specs.Net.{Net, Costs}
use Rattle.passes.specs.Passing.{pass}
use Rattle.records.specs.declared.steps.Step.TheVariants.{Shift, Close}
use Rattle.records.specs.Trees.{TreeNode}
use Rattle.engines.specs.Nodes.{plan_of}
use Rattle.engines.specs.Engines.{Look, closes, finds, opens, State, Engine, never, searched}

-- a variable that is not fixed
abbrev pub free : TreeNode → ℕ → Bool
free d v = not (d.branched v)

-- "passed. If the constant is at least best, it closes. Else, if every variable is fixed, its plan and constant become the best, and it closes. Else the
-- lowest unfixed variable is branched"; "for each closed node its pass's shifts in order and the close; a branched node's shifts are not written"
unfoldable pub first_look : Net → Costs → TreeNode → ℕ → Look
first_look n held d b =
    let w = pass n d.live held in
    let steps = map Shift w.shifts ++ (Close ∷ []) in
    let lowest = first_to n.vars (free d) in
    cond (leb b w.costs.constant) (closes steps) (cond (ltb lowest n.vars) (opens [] d lowest) (finds (plan_of n d) w.costs.constant steps))

abbrev pub first_engine : Net → Costs → Engine
first_engine n held = record { net = n; look = first_look n held }

-- the search that no budget ends
abbrev pub whole_search : Net → Costs → State
whole_search n held = searched (first_engine n held) never

-- "more nodes needed than the budget": how many are needed
abbrev pub nodes_needed : Net → Costs → ℕ
nodes_needed n held = (whole_search n held).count

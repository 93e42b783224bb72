-- A search over an engine, so that every search shares its laws: an engine says what happens at a node, a gate whether the search goes on.
use Rattle.std.specs.Prelude.{ℕ, zero, suc, ◌+◌, Bool, cond, List, [], ◌∷◌, ◌++◌, ltb, Err}
use Rattle.answers.specs.Answers.{Answer, Done, number_of}
use Rattle.answers.specs.declared.Refusal.TheVariants.{OverBudget}
use Rattle.costs.specs.Net.{Net}
use Rattle.boxes.specs.Loops.{each_to}
use Rattle.records.specs.declared.steps.Step.{Step}
use Rattle.records.specs.declared.steps.Step.TheVariants.{Branch}
use Rattle.records.specs.Trees.{TreeNode, root, child}

-- what happens at a node
pub data Look : Type 0 where
  -- it closes: the steps written
  closes : List Step → Look
  -- "its plan and constant become the best, and it closes": the plan, its cost, the steps written
  finds : List ℕ → ℕ → List Step → Look
  -- it is branched: the steps written before, the node that they leave, the variable
  opens : List Step → TreeNode → ℕ → Look

pub record State : Type 0 where
  pub best : ℕ
  pub plan : List ℕ
  pub count : ℕ
  pub steps : List Step
  -- `Done` while the search goes on, else the refusal that has ended it
  pub ended : Answer

-- what happens at a node, given the best so far
pub record Engine : Type 0 where
  pub net : Net
  pub look : TreeNode → ℕ → Look

-- anything but success
abbrev pub refuses : Answer → Bool
refuses a = ltb 0 (number_of a)

-- asked when a node is about to be entered: `Done`, or the refusal that ends the search
abbrev pub Gate : Type 0
Gate = State → Answer

abbrev pub never : Gate
never s = Done

-- two gates, one behind the other: the refusal of the first, else that of the second
abbrev pub both : Gate → Gate → Gate
both g h s = cond (refuses (g s)) (g s) (h s)

-- 11, "more nodes needed than the budget": asked of a node about to be entered
unfoldable pub budget : ℕ → Gate
budget m s = cond (ltb s.count m) Done (Err OverBudget)

-- "Each node entered is counted"
abbrev pub closed_at : List Step → State → State
closed_at w s = record { best = s.best; plan = s.plan; count = s.count + 1; steps = s.steps ++ w; ended = s.ended }

abbrev pub found_at : List ℕ → ℕ → List Step → State → State
found_at q c w s = record { best = c; plan = q; count = s.count + 1; steps = s.steps ++ w; ended = s.ended }

abbrev pub opened_at : List Step → ℕ → State → State
opened_at w i s = record { best = s.best; plan = s.plan; count = s.count + 1; steps = s.steps ++ (w ++ (Branch i ∷ [])); ended = s.ended }

abbrev pub ended_by : Answer → State → State
ended_by a s = record { best = s.best; plan = s.plan; count = s.count; steps = s.steps; ended = a }

-- the state after a look, where `below` searches the children
abbrev pub taken : Look → State → (TreeNode → ℕ → State → State) → State
taken (closes w) s below = closed_at w s
taken (finds q c w) s below = found_at q c w s
taken (opens w d i) s below = below d i (opened_at w i s)

-- "values ascending", the live ones
abbrev pub each_live : Net → TreeNode → ℕ → (ℕ → State → State) → State → State
each_live n d i f s = each_to (λ a x. let y = f a x in cond (d.live i a) y x) (n.size i) s

-- the node d, where at most r nodes follow one another downwards: nothing more where the search has ended, or where the gate ends it; else the node is entered
unfoldable pub visit : Engine → Gate → ℕ → TreeNode → State → State
visit e g zero d s = s
visit e g (suc r) d s =
    cond (refuses s.ended) s
    (cond (refuses (g s)) (ended_by (g s) s)
    (taken (e.look d s.best) s (λ d' i. each_live e.net d' i (λ a. visit e g r (child d' i a)))))

-- "Best starts at k"
abbrev pub begin : ℕ → State
begin top = record { best = top; plan = []; count = 0; steps = []; ended = Done }

-- the whole search
abbrev pub searched : Engine → Gate → State
searched e g = visit e g (suc e.net.vars) (root e.net) (begin e.net.top)

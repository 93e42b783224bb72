-- Legal shifts and a close spell a node. Assumes nothing.
use Rattle.std.proofs.Common.{ℕ, ◌≤◌, ◌≡◌, refl, ◌∙◌, List, [], ◌∷◌, ◌++◌, map, append_assoc, arith}
use Rattle.std.proofs.Math.Option.{Option, none, some}
use Rattle.costs.specs.Net.{Net, Costs, Sound}
use Rattle.shifts.specs.declared.moves.Move.{Move}
use Rattle.shifts.specs.Moves.{shifted, ran, LegalAll}
use Rattle.records.specs.Trees.{TreeNode}
use Rattle.records.specs.declared.steps.Step.{Step}
use Rattle.records.specs.declared.steps.Step.TheVariants.{Shift, Close}
use Rattle.records.specs.Rules.{Claim, current, Spells, nodes_in}
use Rattle.passes.specs.Passing.{pass}
use Rattle.passes.proofs.PassIsLegal.{pass_is_legal}
use Rattle.engines.proofs.WritingEngines.{nodes_in-append}
use Rattle.engines.specs.Rightness.{Closing}

-- the costs after these shifts
abbrev pub ran_on : Claim → TreeNode → Option Costs → List Move → Option Costs
ran_on r d o [] = o
ran_on r d o (x ∷ xs) = ran_on r d (some (shifted r.net d.live x (current r.held o))) xs

pub ran_on_ran : (r : Claim) (d : TreeNode) (o : Option Costs) (xs : List Move) → current r.held (ran_on r d o xs) ≡ ran r.net d.live (current r.held o) xs
ran_on_ran r d o [] = refl
ran_on_ran r d o (x ∷ xs) = ran_on_ran r d (some (shifted r.net d.live x (current r.held o))) xs

pub spells_shifts : (r : Claim) (d : TreeNode) (ds : List TreeNode) (ss : List Step) (o : Option Costs) (xs : List Move) → LegalAll r.net d.live (current r.held o) xs
    → Spells r (d ∷ ds) (ran_on r d o xs) ss → Spells r (d ∷ ds) o (map Shift xs ++ ss)
spells_shifts r d ds ss o [] l s = s
spells_shifts r d ds ss o (x ∷ xs) l s = (l.0, spells_shifts r d ds ss (some (shifted r.net d.live x (current r.held o))) xs l.1 s)

pub nodes_in_shifts : (xs : List Move) → nodes_in (map Shift xs) ≡ 0
nodes_in_shifts [] = refl
nodes_in_shifts (x ∷ xs) = nodes_in_shifts xs

-- the shifts of a pass
abbrev pub passed : Net → Costs → TreeNode → List Step
passed n held d = map Shift (pass n d.live held).shifts

module _ (r : Claim) (good : Sound r.net) (d : TreeNode) where
  -- after the pass the costs are the pass's
  pub pass_costs : current r.held (ran_on r d none (pass r.net d.live r.held).shifts) ≡ (pass r.net d.live r.held).costs
  pass_costs = ran_on_ran r d none (pass r.net d.live r.held).shifts ∙ (pass_is_legal r.net good d.live r.held).leads

  pub spells_pass : (ds : List TreeNode) (ss : List Step) → Spells r (d ∷ ds) (ran_on r d none (pass r.net d.live r.held).shifts) ss → Spells r (d ∷ ds) none (passed r.net r.held d ++ ss)
  spells_pass ds ss s = spells_shifts r d ds ss none (pass r.net d.live r.held).shifts (pass_is_legal r.net good d.live r.held).legal s

  -- a pass whose constant reaches b closes the node
  pub pass_closes : (b : ℕ) → b ≤ (pass r.net d.live r.held).costs.constant → Closing r d b (passed r.net r.held d ++ (Close ∷ []))
  pass_closes b l = record {
    one = rw (nodes_in-append, nodes_in_shifts) (omega arith);
    spells = λ m ds ss s. rw append_assoc (spells_pass ds (Close ∷ ss) (rw pass_costs (omega arith), s));
  }

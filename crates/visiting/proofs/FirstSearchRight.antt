-- The search of document 01 is right, and writes a record that keeps the rules. Assumes nothing.
use Rattle.std.proofs.Common.{ℕ, ◌≤◌, ◌<◌, ◌≡◌, refl, arith, leb, leb→le, ltb, ltb→lt, nltb→le}
use Rattle.std.proofs.Math.Dec.{nleb→lt}
use Rattle.std.proofs.lemmas.Bool.{not-true, not-false}
use Rattle.answers.specs.Answers.{Done}
use Rattle.costs.specs.Range.{first_to}
use Rattle.costs.proofs.TestLaws.{is_true, is_false}
use Rattle.costs.proofs.RangeLaws.{first_to_below}
use Rattle.passes.proofs.PassIsLegal.{pass_constant_below}
use Rattle.costs.specs.Net.{Net, Costs, Sound}
use Rattle.passes.specs.Passing.{pass}
use Rattle.records.specs.Trees.{TreeNode}
use Rattle.engines.specs.Engines.{Gate, searched}
use Rattle.visiting.specs.FirstSearch.{free, first_look, first_engine}
use Rattle.records.specs.Rules.{claim_of, Keeps, nodes_in}
use Rattle.costs.specs.Cheapest.{RightAnswer}
use Rattle.engines.specs.Rightness.{Cut, LookRight, Right, LookWrites, Writes}
use Rattle.engines.proofs.RightEngines.{look_choose, searched_answer}
use Rattle.engines.proofs.WritingEngines.{searched_keeps, searched_count}
use Rattle.engines.proofs.PassSpelling.{pass_closes}
use Rattle.engines.specs.Nodes.{Tidy, OneLive}
use Rattle.engines.proofs.TidyNodes.{tidy_root, settled_found, cut_at}

module _ (n : Net) (good : Sound n) (held : Costs) (ok : held.constant ≤ n.top) (pos : 0 < n.top) where
  -- a fixed variable has one live value, and a free one is not branched
  pub free_cut : (d : TreeNode) (b : ℕ) → Tidy n d → first_to n.vars (free d) < n.vars → Cut n held (Tidy n) d b d (first_to n.vars (free d))
  free_cut d b tidy h = cut_at n held d b (free d) tidy h (λ v l t. tidy.one v l (not-false (d.branched v) (is_false (free d v) t))) (λ v l t. not-true (d.branched v) (is_true (free d v) t))

  pub all_settled : (d : TreeNode) → Tidy n d → n.vars ≤ first_to n.vars (free d) → OneLive n d
  all_settled d tidy h v l = tidy.one v l (not-false (d.branched v) (first_to_below n.vars (free d) v (omega arith)))

  pub first_right : Right (first_engine n held) held (Tidy n)
  unfolding first_look
  first_right = record {
    root = tidy_root n good;
    look = λ d b tidy. look_choose (LookRight n held (Tidy n) d b) (leb b (pass n d.live held).costs.constant) _ _
        (λ t p u. omega (arith, leb→le b (pass n d.live held).costs.constant t, pass_constant_below n good d.live held ok p u))
        (λ t. look_choose (LookRight n held (Tidy n) d b) (ltb (first_to n.vars (free d)) n.vars) _ _
        (λ a. free_cut d b tidy (ltb→lt _ _ a))
        (λ a. settled_found n good held ok pos d tidy b (all_settled d tidy (nltb→le _ _ a)) (nleb→lt b _ t)));
  }

  pub first_writes : Writes (first_engine n held) held (Tidy n)
  unfolding first_look
  first_writes = record {
    look = λ c d b tidy. look_choose (LookWrites (claim_of n held c) d b) (leb b (pass n d.live held).costs.constant) _ _
        (λ t. pass_closes (claim_of n held c) good d b (leb→le b _ t))
        (λ t. look_choose (LookWrites (claim_of n held c) d b) (ltb (first_to n.vars (free d)) n.vars) _ _
        (λ a. let h = free_cut d b tidy (ltb→lt _ _ a) in record { zero = refl; spells = λ l ds ss s. ((h.variable, rw h.free tt, refl), s) })
        (λ a. pass_closes (claim_of n held c) good d (pass n d.live held).costs.constant (omega arith)));
  }

  -- demand 2 for the first search, whatever stops it
  pub first_answer : (g : Gate) → (searched (first_engine n held) g).ended ≡ Done → RightAnswer n held (searched (first_engine n held) g).plan (searched (first_engine n held) g).best
  first_answer g k = searched_answer (first_engine n held) held (Tidy n) first_right g k

  -- its steps keep the rules, and its count is theirs
  pub first_keeps : (g : Gate) → (searched (first_engine n held) g).ended ≡ Done → Keeps (claim_of n held (searched (first_engine n held) g).best) (searched (first_engine n held) g).steps
  first_keeps g k = searched_keeps (first_engine n held) held (Tidy n) first_right first_writes g k

  pub first_count : (g : Gate) → (searched (first_engine n held) g).ended ≡ Done → (searched (first_engine n held) g).count ≡ nodes_in (searched (first_engine n held) g).steps
  first_count g k = searched_count (first_engine n held) held (Tidy n) first_right first_writes g k

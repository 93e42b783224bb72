-- Each network of few enough plans has a record that keeps the rules, of words that fit and that are not too many. Assumes nothing.
use Rattle.std.proofs.Common.{ℕ, suc, ◌+◌, ◌*◌, ◌^◌, ◌≤◌, ◌<◌, ◌≡◌, refl, [], ◌∷◌, ◌++◌, map, arith, mul-le-mul, leb, ltb, length, length-append}
use Rattle.answers.specs.Answers.{Done}
use Rattle.costs.specs.Range.{first_to}
use Rattle.costs.specs.Limits.{vars_most, size_most, functions_most, cost_most, arity_most}
use Rattle.std.proofs.Math.ListN.{length-map}
use Rattle.costs.specs.Net.{Net, Costs, Sound, plans}
use Rattle.passes.specs.Passing.{pass, Within}
use Rattle.records.specs.Trees.{TreeNode, root}
use Rattle.visiting.specs.FirstSearch.{free, first_look, first_engine}
use Rattle.records.specs.declared.steps.Step.TheVariants.{Shift, Close}
use Rattle.records.specs.Rules.{claim_of, Keeps}
use Rattle.engines.specs.Engines.{Engine, never, begin, searched}
use Rattle.costs.specs.Cheapest.{RightAnswer}
use Rattle.engines.proofs.BudgetLaws.{visit-never}
use Rattle.engines.specs.Nodes.{Tidy}
use Rattle.engines.proofs.TidyNodes.{tidy_root}
use Rattle.engines.proofs.RightEngines.{look_choose}
use Rattle.visiting.proofs.FirstSearchRight.{first_right, first_answer, first_keeps}
use Rattle.engines.specs.Rightness.{LookShort}
use Rattle.engines.proofs.SearchSize.{visit_count, visit_short}
use Rattle.engines.proofs.SmallWords.{words_small, words_few}
use Rattle.passes.proofs.PassLength.{pass_length}
use Rattle.records.specs.Steps.{step_words}
use Rattle.records.specs.Records.{header_words}
use Rattle.agreed.specs.Recorded.{Recorded}

-- the first search writes at most a pass and a close at a node
first_short : (N S F A : ℕ) (n : Net) → Sound n → Within N S F A n → (held : Costs) (d : TreeNode) (b : ℕ) → LookShort (F * (A * S) + N + 1) (first_look n held d b)
unfolding first_look
first_short N S F A n good lim held d b = look_choose (LookShort (F * (A * S) + N + 1)) (leb b (pass n d.live held).costs.constant) _ _ (λ t. closing)
    (λ t. look_choose (LookShort (F * (A * S) + N + 1)) (ltb (first_to n.vars (free d)) n.vars) _ _ (λ a. omega arith) (λ a. closing))
  where
    closing : length (map Shift (pass n d.live held).shifts ++ (Close ∷ [])) ≤ F * (A * S) + N + 1
    closing = omega (arith, length-append (map Shift (pass n d.live held).shifts) (Close ∷ []), length-map (pass n d.live held).shifts Shift, pass_length N S F A n good lim d.live held)

-- "each network of at most 2^32 plans has a record", over the limits
module _ (N S F A P L W : ℕ) (n : Net) (good : Sound n) (held : Costs) (ok : held.constant ≤ n.top) (pos : 0 < n.top) (lim : Within N S F A n) (few : plans n ≤ P)
    (room : header_words + N + step_words * ((F * (A * S) + N + 1) * ((N + 1) * P)) < L) (l-fits : L ≤ W) (n-fits : N ≤ W) (s-fits : S ≤ W) (f-fits : F ≤ W) (k-fits : n.top < W) where
  abbrev E : Engine
  E = first_engine n held

  ends : (searched E never).ended ≡ Done
  ends = visit-never E (suc n.vars) (root n) (begin n.top) refl

  answer : RightAnswer n held (searched E never).plan (searched E never).best
  answer = first_answer n good held ok pos never ends

  keeps : Keeps (claim_of n held (searched E never).best) (searched E never).steps
  keeps = first_keeps n good held ok pos never ends

  nodes : (searched E never).count ≤ (N + 1) * P
  nodes = omega (
    arith,
    visit_count E held (Tidy n) (first_right n good held ok pos) good never (suc n.vars) (root n) (begin n.top) (tidy_root n good),
    mul-le-mul {n₁ = suc n.vars} {m₁ = plans n} {n₂ = N + 1} {m₂ = P} (omega (arith, lim.vars)) few,
  )

  long : length (searched E never).steps ≤ (F * (A * S) + N + 1) * ((N + 1) * P)
  long = omega (
    arith,
    visit_short E held (Tidy n) (first_right n good held ok pos) good never (F * (A * S) + N + 1) (λ d b i. first_short N S F A n good lim held d b) (suc n.vars) (root n) (begin n.top) (tidy_root n good) (omega arith),
    mul-le-mul {n₁ = F * (A * S) + N + 1} {m₁ = (searched E never).count} {n₂ = F * (A * S) + N + 1} {m₂ = (N + 1) * P} (omega arith) nodes,
  )

  pub recorded : Recorded n held L W
  recorded = record {
    plan = (searched E never).plan;
    cost = (searched E never).best;
    steps = (searched E never).steps;
    answer = answer;
    keeps = keeps;
    small = words_small N S F A W n held lim n-fits s-fits f-fits k-fits (searched E never).plan (searched E never).best (searched E never).steps answer keeps (omega arith) (omega (arith, long));
    few = omega (
      arith,
      long,
      words_few N S F A W n held lim n-fits s-fits f-fits k-fits (searched E never).plan (searched E never).best (searched E never).steps answer keeps (omega arith) (omega (arith, long)),
    );
  }

-- with the numbers of document 01: words of 64 bits, whose bytes are fewer than 2 ^ 63
pub recorded_01 : (n : Net) → Sound n → (held : Costs) → held.constant ≤ n.top → 0 < n.top → n.top ≤ cost_most → Within vars_most size_most functions_most arity_most n → plans n ≤ 2 ^ 32 → Recorded n held (2 ^ 60) (2 ^ 64)
recorded_01 n good held ok pos k lim few = recorded vars_most size_most functions_most arity_most (2 ^ 32) (2 ^ 60) (2 ^ 64) n good held ok pos lim few (omega arith) (omega arith) (omega arith) (omega arith) (omega arith) (omega arith)

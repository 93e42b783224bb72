-- A record of the right answer, as plan, cost and steps.
use Rattle.std.specs.Prelude.{ℕ, ◌<◌, List, length}
use Rattle.costs.specs.Net.{Net, Costs, All}
use Rattle.costs.specs.Cheapest.{RightAnswer}
use Rattle.records.specs.declared.steps.Step.{Step}
use Rattle.records.specs.Rules.{claim_of, Keeps}
use Rattle.records.specs.Records.{record_words}

-- a record of the cheapest plan, or of none, that keeps the rules: fewer than L words, each below W
pub record Recorded (n : Net) (held : Costs) (L W : ℕ) : Type 0 where
  pub plan : List ℕ
  pub cost : ℕ
  pub steps : List Step
  pub answer : RightAnswer n held plan cost
  pub keeps : Keeps (claim_of n held cost) steps
  pub small : All (λ w. w < W) (record_words n cost plan steps)
  pub few : length (record_words n cost plan steps) < L

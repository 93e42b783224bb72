-- Ties: what the code's result says, as the outcome of a step of reading, and what is known of a soft sum that was read.
use Rattle.std.specs.Prelude.{ℕ, ◌≤◌, Result, Ok, Err}
use Rattle.answers.specs.declared.Refusal.{Refusal}
use Rattle.tokens.specs.Steps.{Got, got, refused}
use Rattle.soft_sums.specs.SoftLimits.{base_most, limit_most}
use Rattle.soft_sums.specs.declared.Soft.{Soft}

abbrev pub soft_is : Result (Soft × ℕ) Refusal → Got Soft
soft_is (Ok read) = got read.0 read.1
soft_is (Err refusal) = refused refusal

pub record Fair (soft : Soft) : Type 0 where
  pub base_at_most : soft.base ≤ base_most
  pub limit_at_most : soft.limit ≤ limit_most

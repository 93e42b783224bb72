-- What a cost gives, by cases. Assumes nothing.
use Rattle.std.proofs.Common.{ℕ, ◌-◌, ◌≤◌, ◌<◌, ◌≡◌, ⊎_elim, arith}
use Rattle.costs.specs.Cost.{minus}
use Rattle.costs.proofs.CostLaws.{minus_cases}

pub minus_top : (top a b : ℕ) → top ≤ a → minus top a b ≡ top
minus_top top a b h = ⊎_elim (λ w. w.1) (λ w. omega arith) (minus_cases top a b)

pub minus_less : (top a b : ℕ) → a < top → minus top a b ≡ a - b
minus_less top a b h = ⊎_elim (λ w. omega arith) (λ w. w.1) (minus_cases top a b)

-- What a call leaves settles what it hands back and every entry of the lent table, whose length the language keeps. Assumes nothing.
use Prim.Native.Nat.{ℕ}
use mathlib.Core.Path.{◌≡◌, ap}
use mathlib.Core.List.{List}
use lib.ListN.{length}
use lib.Seq.{ext_get_or}
use Rattle.shifts.specs.declared.outcomes.Outcome.{Outcome}
use Rattle.shifts.specs.Doors.{CostsLeft, leaves}

pub one_outcome : (r q : Outcome) (t u : List ℕ) → length t ≡ length u → leaves r t ≡ leaves q u → (r ≡ q) × (t ≡ u)
one_outcome r q t u l e = (
  (λ i. record { answer = (e i).answer; constant = (e i).costs.constant }),
  ext_get_or 0 t u l (λ j h. ap (λ (x : CostsLeft). x.costs.at j) e),
)

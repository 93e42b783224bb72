-- The sums that a comparator permits, and how far a sum is from them: request M-103 calls a gap "the distance to a permitted sum".
use Rattle.std.specs.Prelude.{ℕ, ◌+◌, ◌-◌, ◌≤◌, ◌<◌, ◌≡◌}
use Rattle.soft_sums.specs.declared.Comparator.{Comparator}
use Rattle.soft_sums.specs.declared.Comparator.TheVariants.{Equal, Unequal, Below, AtMost, Above, AtLeast}

abbrev pub Permitted : Comparator → ℕ → ℕ → Type 0
Permitted Equal limit sum = sum ≡ limit
Permitted Unequal limit sum = sum ≡ limit → ⊥
Permitted Below limit sum = sum < limit
Permitted AtMost limit sum = sum ≤ limit
Permitted Above limit sum = limit < sum
Permitted AtLeast limit sum = limit ≤ sum

abbrev pub apart : ℕ → ℕ → ℕ
apart a b = (a - b) + (b - a)

-- the nearest permitted sum is `distance` away
pub record Nearest (c : Comparator) (limit sum distance : ℕ) : Type 0 where
  pub other : ℕ
  pub permitted : Permitted c limit other
  pub there : apart sum other ≡ distance
  pub none_nearer : (any : ℕ) → Permitted c limit any → distance ≤ apart sum any

-- Laws of stretches of a table, and of costs as functions of the place. Assumes nothing.
use Rattle.std.proofs.Common.{ℕ, ◌+◌, ◌-◌, ◌≤◌, ◌<◌, ◌≡◌, Bool, List, arith, T, leb, ltb, leb→le, le→leb, ltb→lt, lt→ltb, length, get_or, set, get_or-set_same, get_or-set_other}
use mathlib.Core.Path.{fun_ext}
use native.Mathlib.Nat.{add-sub_cancel_left}
use native.Mathlib.Decide.{ℕ_discrete}
use Rattle.costs.specs.Net.{Costs}
use Rattle.costs.proofs.TestLaws.{is_true, both}
pub use Rattle.costs.proofs.RangeLaws.{filled_more}
use Rattle.boxes.specs.Places.{in_stretch}

pub in_stretch-range : (s n : ℕ) (these : ℕ → Bool) (j : ℕ) → T (in_stretch s n these j) → (s ≤ j) × (j < s + n)
unfolding in_stretch
in_stretch-range s n these j t = (leb→le s j (both (leb s j) _ t).0, ltb→lt j (s + n) (both (ltb j (s + n)) _ (both (leb s j) _ t).1).0)

pub in_stretch-entry : (s n : ℕ) (these : ℕ → Bool) (j : ℕ) → T (in_stretch s n these j) → (e : ℕ) × (e < n) × T (these e) × (j ≡ s + e)
unfolding in_stretch
in_stretch-entry s n these j t =
    let r = in_stretch-range s n these j t in
    (j - s, omega arith, (both (ltb j (s + n)) _ (both (leb s j) _ t).1).1, omega arith)

pub in_stretch_at : (s n : ℕ) (these : ℕ → Bool) (e : ℕ) → e < n → in_stretch s n these (s + e) ≡ these e
unfolding in_stretch
in_stretch_at s n these e l =
    rw (is_true (leb s (s + e)) (le→leb s (s + e) (omega arith)), is_true (ltb (s + e) (s + n)) (lt→ltb (s + e) (s + n) (omega arith)), add-sub_cancel_left)

-- costs are equal where they agree at every place
pub costs-same : (c d : Costs) → c.constant ≡ d.constant → ((j : ℕ) → c.at j ≡ d.at j) → c ≡ d
costs-same c d e h = λ i. record { constant = e i; at = fun_ext h i }

-- Laws of `digits`, from byte i of w on: what the next byte does, and how large a value of few digits is. Assumes nothing.
use Rattle.std.proofs.Common.{ℕ, ◌+◌, ◌-◌, ◌*◌, ◌^◌, ◌≤◌, ◌<◌, ◌≡◌, List, true, false, pow-suc, add-one, arith, lit<, length, get_or, drop, drop_of_length-le, drop-cons, le-leb}
use Rattle.std.specs.Prelude.{Some, None}
use native.Mathlib.Nat.{pow-le-pow_right}
use Rattle.costs.specs.Tests.{between}
use Rattle.tokens.specs.TextLimits.{digits_most}
use Rattle.tokens.specs.Numbers.{digits, value_of}

pub fair : (w : List ℕ) → 1 ≤ length w → length w ≤ digits_most → value_of w ≡ digits 0 w
unfolding value_of
fair w h k = rw (le-leb _ _ h, le-leb _ _ k)

module _ (w : List ℕ) (i v : ℕ) where
  pub digits_end : length w ≤ i → digits v (drop i w) ≡ Some v
  unfolding digits
  digits_end h = rw (drop_of_length-le w h)

  module _ (h : i < length w) where
    pub digits_stop : between 48 57 (get_or w i 0) ≡ false → digits v (drop i w) ≡ None
    unfolding digits
    digits_stop e = rw (drop-cons w i 0 h, e)

    pub digits_more : between 48 57 (get_or w i 0) ≡ true → digits v (drop i w) ≡ digits (v * 10 + (get_or w i 0 - 48)) (drop (i + 1) w)
    unfolding digits
    digits_more e = rw (drop-cons w i 0 h, e, add-one)

-- a digit more
pub ten_more : (v d i : ℕ) → d < 10 → v < 10 ^ i → v * 10 + d < 10 ^ (i + 1)
ten_more v d i l h = rw (add-one, pow-suc) (omega arith)

-- fewer digits than the most leave room for one more
pub ten_room : (v j : ℕ) → j < digits_most → v < 10 ^ j → v < 10 ^ (digits_most - 1)
ten_room v j l h =
    let m : j ≤ digits_most - 1 = omega arith in
    omega (arith, pow-le-pow_right {n = 10} (lit< tt) m)

-- The fewest digits that hold a number are its numeral.
use Rattle.std.proofs.Common.{ℕ, zero, suc, ◌*◌, ◌-◌, ◌/◌, ◌%◌, ◌^◌, ◌≤◌, ◌<◌, ◌≡◌, Bool, true, false, List, [], ◌∷◌, ◌++◌, ltb, refl, ap, arith, pow-suc, lt-ltb, le-ltb, ltb-true, ltb-false, lit<}
use Rattle.std.proofs.Math.Nat.{pow-le-pow_right}
use Rattle.io.specs.Digits.{hex_digit_ascii, last_digits, IsDigitCount}
use Rattle.lines.specs.Numerals.{shortest, numeral_most}

pow_above : (k : ℕ) → 0 < 10 ^ k
pow_above zero = omega arith
pow_above (suc k) = let e : 10 ^ suc k ≡ 10 ^ k * 10 = pow-suc 10 k in omega (arith, e, pow_above k)

suc_less : (k : ℕ) → suc k - 1 ≡ k
suc_less k = omega arith

pub fewest_shortest : (most many n : ℕ) → IsDigitCount 10 1 n many → many ≤ most → last_digits 10 many n ≡ shortest most n
unfolding shortest
fewest_shortest most zero n few h = absurd (omega (arith, few.0))
fewest_shortest zero (suc many) n few h = absurd (omega (arith, h))
fewest_shortest (suc most) (suc zero) n few h =
    let s : n < 10 = few.1 in
    let r : n % 10 ≡ n = omega arith in
    rw (r, lt-ltb n 10 s) refl
fewest_shortest (suc most) (suc (suc many)) n few h =
    let p : 10 ^ suc (suc many) ≡ 10 ^ suc many * 10 = pow-suc 10 (suc many) in
    let q : 10 ^ suc many ≡ 10 ^ many * 10 = pow-suc 10 many in
    let low : 10 ^ suc many ≤ n = rw (suc_less (suc many)) at (few.2 (omega arith)) in
    let high : n < 10 ^ suc (suc many) = few.1 in
    let s : 10 ≤ n = omega (arith, pow_above many, q, low) in
    let under : n / 10 < 10 ^ suc many = omega (arith, p, high) in
    let least : 10 ^ many ≤ n / 10 = omega (arith, q, low) in
    rw (le-ltb n 10 s) (ap (λ (xs : List ℕ). xs ++ (hex_digit_ascii (n % 10) ∷ [])) (fewest_shortest most (suc many) (n / 10) (omega arith, under, λ _. rw (suc_less many) least) (omega arith)))

-- a number of 64 bits has at most twenty
pub fewest_most : (many n : ℕ) → n < 2 ^ 64 → IsDigitCount 10 1 n many → many ≤ numeral_most
fewest_most many n h few = go (ltb numeral_most many) refl
  where
    go : (b : Bool) → ltb numeral_most many ≡ b → many ≤ numeral_most
    go true e =
        let more : numeral_most < many = ltb-true numeral_most many e in
        let m : numeral_most ≤ many - 1 = omega arith in
        absurd (omega (arith, pow-le-pow_right {n = 10} (lit< tt) m, few.2 (omega arith)))
    go false e = ltb-false numeral_most many e

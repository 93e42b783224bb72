-- Laws of the product of sizes, one size at a time: few sizes have few tuples. Assumes nothing.
use Rattle.std.proofs.Common.{ℕ, ◌+◌, ◌*◌, ◌^◌, ◌≤◌, ◌<◌, ◌≡◌, List, [], ◌∷◌, ◌++◌, length, get_or, drop, sym, refl, arith}
use native.Mathlib.Nat.{le_trans, pow-le-pow_right, mul_assoc}
use lib.Dec.{lit<}
use Rattle.costs.specs.Limits.{size_most}
use Rattle.costs.proofs.RowLaws.{factor_more}
use Rattle.costs.proofs.ScopeLaws.{tuples_more, tuples_done}
use Rattle.stretches.specs.Sizes.{product}

pub few_more : (many d j : ℕ) → d ≤ size_most → many ≤ size_most ^ j → many * d ≤ size_most ^ (j + 1)
few_more many d j h l = factor_more size_most j many d l h

pub few_most : (many j k : ℕ) → j ≤ k → many ≤ size_most ^ j → many ≤ size_most ^ k
few_most many j k h l = le_trans l (pow-le-pow_right {n = size_most} (lit< tt) h)

-- one size more
pub product_more : (ds : List ℕ) (d : ℕ) → product (ds ++ d ∷ []) ≡ product ds * d
unfolding product
product_more [] d = omega arith
product_more (e ∷ ds) d = rw (product_more ds d) (sym (mul_assoc e (product ds) d))

-- a product, one size more from the front
pub product_next : (ds : List ℕ) (j many all : ℕ) → j < length ds → many * product (drop j ds) ≡ all → many * get_or ds j 0 * product (drop (j + 1) ds) ≡ all
unfolding product
product_next ds j many all h e = tuples_more (λ d. d) ds j many _ all h refl e

pub product_all : (ds : List ℕ) (j many all : ℕ) → length ds ≤ j → many * product (drop j ds) ≡ all → many ≡ all
unfolding product
product_all ds j many all h e = tuples_done (λ d. d) ds j many all h e

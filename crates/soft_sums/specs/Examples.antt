-- Request M-103's figures, computed.
use Rattle.std.specs.Prelude.{◌≡◌, refl, [], ◌∷◌, map}
use Rattle.soft_sums.specs.Soft.{gap_below, gap, gap_cost}
use Rattle.soft_sums.specs.declared.Mode.TheVariants.{Hard, Lin, Quad}
use Rattle.soft_sums.specs.declared.Comparator.TheVariants.{Below}

-- with K 4, "Sum 3 gives 0, Sum 4 gives 1, Sum 6 gives 3"; Sum 5, which was let through, gives 2
below_four : map (gap Below 4) (3 ∷ 4 ∷ 5 ∷ 6 ∷ []) ≡ 0 ∷ 1 ∷ 2 ∷ 3 ∷ []
unfolding gap gap_below
below_four = refl

-- with K 0 every sum has a gap
below_none : map (gap Below 0) (0 ∷ 1 ∷ 44 ∷ []) ≡ 1 ∷ 2 ∷ 45 ∷ []
unfolding gap gap_below
below_none = refl

-- what Sum 6 costs with K 4, base 7 and k 100
below_costs : map (λ mode. gap_cost 100 mode 7 (gap Below 4 6)) (Hard ∷ Lin ∷ Quad ∷ []) ≡ 100 ∷ 21 ∷ 63 ∷ []
unfolding gap gap_below gap_cost
below_costs = refl

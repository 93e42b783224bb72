-- A sum has no gap exactly where its comparator permits it; where any sum is permitted, the gap is the distance to the nearest. Assumes nothing.
use Rattle.std.proofs.Common.{ℕ, suc, ◌+◌, ◌-◌, ◌≤◌, ◌≡◌, refl, Bool, true, false, cond, ◌⊎◌, inl, inr, ⊎_elim, arith, T, eqb}
use Rattle.costs.proofs.TestLaws.{by_eqb}
use Rattle.soft_sums.specs.Soft.{gap_below, gap}
use Rattle.soft_sums.specs.Permitted.{Permitted, apart, Nearest}
use Rattle.soft_sums.specs.declared.Comparator.{Comparator}
use Rattle.soft_sums.specs.declared.Comparator.TheVariants.{Equal, Unequal, Below, AtMost, Above, AtLeast}

unequal_cases : (limit sum : ℕ) → ((sum ≡ limit) × (gap Unequal limit sum ≡ 1)) ⊎ ((sum ≡ limit → ⊥) × (gap Unequal limit sum ≡ 0))
unfolding gap
unequal_cases limit sum = go (eqb sum limit) (by_eqb sum limit).says (by_eqb sum limit).finds
  where
    go : (t : Bool) → (T t → sum ≡ limit) → (sum ≡ limit → T t)
        → ((sum ≡ limit) × (◌≡◌ {A = ℕ} (cond t 1 0) 1)) ⊎ ((sum ≡ limit → ⊥) × (◌≡◌ {A = ℕ} (cond t 1 0) 0))
    go true f g = inl (f tt, refl)
    go false f g = inr (g, refl)

-- with `<` and K 0 no sum is permitted, so every sum has a gap
pub no_gap_permitted : (c : Comparator) (limit sum : ℕ) → gap c limit sum ≡ 0 → Permitted c limit sum
unfolding gap gap_below
no_gap_permitted Equal limit sum e = omega (arith, e)
no_gap_permitted Unequal limit sum e = ⊎_elim (λ w. absurd (omega (arith, w.1, e))) (λ w. w.0) (unequal_cases limit sum)
no_gap_permitted Below limit sum e = omega (arith, e)
no_gap_permitted AtMost limit sum e = omega (arith, e)
no_gap_permitted Above limit sum e = omega (arith, e)
no_gap_permitted AtLeast limit sum e = omega (arith, e)

none_nearer : (c : Comparator) (limit sum any : ℕ) → Permitted c limit any → gap c limit sum ≤ apart sum any
unfolding gap gap_below
none_nearer Equal limit sum any p = omega (arith, p)
none_nearer Unequal limit sum any p = ⊎_elim (λ w. omega (arith, w.0, w.1, p)) (λ w. omega (arith, w.1)) (unequal_cases limit sum)
none_nearer Below limit sum any p = omega (arith, p)
none_nearer AtMost limit sum any p = omega (arith, p)
none_nearer Above limit sum any p = omega (arith, p)
none_nearer AtLeast limit sum any p = omega (arith, p)

pub permitted_no_gap : (c : Comparator) (limit sum : ℕ) → Permitted c limit sum → gap c limit sum ≡ 0
permitted_no_gap c limit sum p = omega (arith, none_nearer c limit sum sum p)

nearest_by : (c : Comparator) (limit sum other : ℕ) → Permitted c limit other → apart sum other ≡ gap c limit sum → Nearest c limit sum (gap c limit sum)
nearest_by c limit sum other p e = record { other = other; permitted = p; there = e; none_nearer = none_nearer c limit sum }

-- where any sum is permitted
pub gap_nearest : (c : Comparator) (limit sum some : ℕ) → Permitted c limit some → Nearest c limit sum (gap c limit sum)
unfolding gap gap_below
gap_nearest Equal limit sum some p = nearest_by Equal limit sum limit refl (omega arith)
gap_nearest Unequal limit sum some p =
    ⊎_elim
    (λ w. nearest_by Unequal limit sum (suc sum) (λ e. omega (arith, w.0, e)) (omega (arith, w.1)))
    (λ w. nearest_by Unequal limit sum sum w.0 (omega (arith, w.1)))
    (unequal_cases limit sum)
gap_nearest Below limit sum some p = nearest_by Below limit sum (sum - (sum + 1 - limit)) (omega (arith, p)) (omega (arith, p))
gap_nearest AtMost limit sum some p = nearest_by AtMost limit sum (sum - (sum - limit)) (omega arith) (omega arith)
gap_nearest Above limit sum some p = nearest_by Above limit sum (sum + (limit + 1 - sum)) (omega arith) (omega arith)
gap_nearest AtLeast limit sum some p = nearest_by AtLeast limit sum (sum + (limit - sum)) (omega arith) (omega arith)

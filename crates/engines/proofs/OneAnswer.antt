-- There is one right answer. Assumes nothing.
use Rattle.std.proofs.Common.{ℕ, zero, suc, ◌<◌, ◌≡◌, sym, ◌∙◌, ◌⊎◌, inl, inr, ⊎_elim, List, arith, ext_get_or}
use Rattle.std.proofs.Math.Decide.{ℕ_discrete, dec_lt}
use Rattle.costs.specs.Net.{Net, Costs}
use Rattle.costs.specs.Cheapest.{value_in, Before, RightAnswer}

-- of two plans one comes before, or they agree
pub before_or : (N : ℕ) (p q : ℕ → ℕ) → ((v : ℕ) → v < N → p v ≡ q v) ⊎ (Before p q ⊎ Before q p)
before_or zero p q = inl (λ v l. absurd (omega arith))
before_or (suc N) p q = ⊎_elim at_last inr (before_or N p q)
  where
    at_last : ((v : ℕ) → v < N → p v ≡ q v) → ((v : ℕ) → v < suc N → p v ≡ q v) ⊎ (Before p q ⊎ Before q p)
    at_last h = elim (dec_lt (p N) (q N)) [
      | yes l ↦ inr (inl (record { first = N; same = h; less = l }))
      | no l ↦ elim (dec_lt (q N) (p N)) [
        | yes m ↦ inr (inr (record { first = N; same = λ v x. sym (h v x); less = m }))
        | no m ↦ inl (λ v x. elim (ℕ_discrete v N) [ yes y ↦ rw y (omega arith) | no y ↦ h v (omega arith) ])
      ]
    ]

-- M-113: "give the same verdict, price and plan; show it once for all of them"
pub one_answer : (n : Net) (held : Costs) (q r : List ℕ) (b c : ℕ) → RightAnswer n held q b → RightAnswer n held r c → (b ≡ c) × (q ≡ r)
one_answer n held q r b c (inl x) (inl y) = (x.best_is ∙ sym y.best_is, x.plan ∙ sym y.plan)
one_answer n held q r b c (inl x) (inr y) = let t = y.cheapest in absurd (omega (arith, x.all (value_in r) t.plan, t.priced, t.below))
one_answer n held q r b c (inr x) (inl y) = let t = x.cheapest in absurd (omega (arith, y.all (value_in q) t.plan, t.priced, t.below))
one_answer n held q r b c (inr x) (inr y) = (same, ext_get_or 0 q r (omega (arith, x.whole, y.whole)) (λ v l. agree v (omega (arith, x.whole))))
  where
    same : b ≡ c
    same = let s = x.cheapest in let t = y.cheapest in omega (arith, s.least (value_in r) t.plan, t.least (value_in q) s.plan, s.priced, t.priced)

    agree : (v : ℕ) → v < n.vars → value_in q v ≡ value_in r v
    agree = ⊎_elim (λ h. h)
        (λ h. absurd (⊎_elim (λ z. omega (arith, same, y.first (value_in q) x.cheapest.plan z, x.cheapest.priced)) (λ z. omega (arith, same, x.first (value_in r) y.cheapest.plan z, y.cheapest.priced)) h))
        (before_or n.vars (value_in q) (value_in r))

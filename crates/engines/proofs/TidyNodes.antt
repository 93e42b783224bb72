-- The nodes that a search enters stay tidy; what the pass says there. Assumes nothing.
use Rattle.std.proofs.Common.{ℕ, ◌≤◌, ◌<◌, ◌≡◌, refl, sym, ◌∙◌, Bool, true, false, cond, inl, arith, T, eqb, eqb→eq, ltb→lt, lt→ltb}
use Rattle.costs.proofs.RangeLaws.{first_to_some, first_to_at, first_to_below}
use Rattle.costs.proofs.TestLaws.{not_so}
use Rattle.passes.proofs.PassIsLegal.{pass_constant_below}
use Rattle.engines.specs.Nodes.{plan_of, HasLive, Tidy, OneLive}
use Rattle.engines.specs.Rightness.{Found, Cut}
use Rattle.costs.proofs.ListLaws.{list_length, list_at}
use Rattle.std.proofs.Math.Dec.{eqb_refl}
use Rattle.costs.specs.Range.{first_to}
use Rattle.costs.specs.Net.{Net, Costs, Sound}
use Rattle.shifts.specs.Nodes.{Fits, fixing}
use Rattle.passes.specs.Passing.{pass}
use Rattle.passes.proofs.PassIsExact.{pass_is_exact}
use Rattle.records.specs.Trees.{TreeNode, root, child}
use Rattle.costs.specs.Cheapest.{value_in}

pub tidy_root : (n : Net) → Sound n → Tidy n (root n)
tidy_root n good = record {
  some = λ v l. record { value = 0; below = good.sized v l; lives = lt→ltb 0 (n.size v) (good.sized v l) };
  below = λ v b l t. ltb→lt b (n.size v) t;
  one = λ v l h. absurd (let z : ◌≡◌ {A = ℕ} 0 1 = cc in omega arith);
}

pub tidy_child : (n : Net) (d : TreeNode) (i a : ℕ) → Tidy n d → a < n.size i → T (d.live i a) → Tidy n (child d i a)
unfolding fixing
tidy_child n d i a h la t = record {
  some = λ v l. some v l (eqb v i) refl;
  below = λ v b l x. below v b l (eqb v i) (eqb→eq v i) x;
  one = λ v l e x y p q. one v l (eqb v i) x y e p q;
}
  where
    some : (v : ℕ) → v < n.vars → (z : Bool) → eqb v i ≡ z → HasLive n (child d i a) v
    some v l true e = let q : v ≡ i = eqb→eq v i (rw e tt) in record { value = a; below = rw q la; lives = rw e (eqb_refl a) }
    some v l false e = let o = h.some v l in record { value = o.value; below = o.below; lives = rw e o.lives }

    below : (v b : ℕ) → v < n.vars → (z : Bool) → (T z → v ≡ i) → T (cond z (eqb b a) (d.live v b)) → b < n.size v
    below v b l true q x = rw (q tt, eqb→eq b a x) la
    below v b l false q x = h.below v b l x

    one : (v : ℕ) → v < n.vars → (z : Bool) (x y : ℕ) → cond z true (d.branched v) ≡ true → T (cond z (eqb x a) (d.live v x)) → T (cond z (eqb y a) (d.live v y)) → x ≡ y
    one v l true x y e p q = eqb→eq x a p ∙ sym (eqb→eq y a q)
    one v l false x y e p q = h.one v l e x y p q

module _ (n : Net) (good : Sound n) (held : Costs) (ok : held.constant ≤ n.top) (pos : 0 < n.top) (d : TreeNode) where
  module _ (tidy : Tidy n d) where
    first_live : (v : ℕ) → v < n.vars → (first_to (n.size v) (d.live v) < n.size v) × T (d.live v (first_to (n.size v) (d.live v)))
    first_live v l = let o = tidy.some v l in let m = first_to_some (n.size v) (d.live v) o.value o.below o.lives in (omega arith, first_to_at (n.size v) (d.live v) (omega arith))

    pub plan_of_fits : Fits n d.live (value_in (plan_of n d))
    plan_of_fits = record {
      plan = record { range = λ v l. rw (list_at n.vars (λ v. first_to (n.size v) (d.live v)) v l) (first_live v l).0 };
      lives = λ v l. rw (list_at n.vars (λ v. first_to (n.size v) (d.live v)) v l) (first_live v l).1;
    }

    -- at a settled node below the best its plan is found
    pub settled_found : (b : ℕ) → OneLive n d → (pass n d.live held).costs.constant < b → Found n held d b (plan_of n d) (pass n d.live held).costs.constant
    settled_found b one l = record {
      cheaper = l;
      whole = list_length n.vars (λ v. first_to (n.size v) (d.live v));
      fits = plan_of_fits;
      priced = pass_is_exact n good d.live (value_in (plan_of n d)) plan_of_fits (λ v x m t. one v m x (value_in (plan_of n d) v) t (plan_of_fits.lives v m)) pos held ok;
      least = pass_constant_below n good d.live held ok;
      only = λ p u. inl (λ v m. one v m (p v) (value_in (plan_of n d) v) (u.lives v m) (plan_of_fits.lives v m));
    }

-- a branch of the first variable that a test picks, where a variable that it leaves has one live value and one that it picks is not branched
pub cut_at : (n : Net) (held : Costs) (d : TreeNode) (b : ℕ) (t : ℕ → Bool) → Tidy n d → first_to n.vars t < n.vars
    → ((v : ℕ) → v < n.vars → (T (t v) → ⊥) → (x y : ℕ) → T (d.live v x) → T (d.live v y) → x ≡ y)
    → ((v : ℕ) → v < n.vars → T (t v) → d.branched v ≡ false) → Cut n held (Tidy n) d b d (first_to n.vars t)
cut_at n held d b t tidy h settled clear =
    record {
      variable = h;
      free = clear (first_to n.vars t) h (first_to_at n.vars t h);
      above = refl;
      keeps = λ p u. inl u;
      narrows = λ p u. u;
      lower = λ p q u w v l. settled v (omega arith) (not_so (first_to_below n.vars t v l)) (p v) (q v) (u.lives v (omega arith)) (w.lives v (omega arith));
      next = λ a l x. tidy_child n d (first_to n.vars t) a tidy l x;
    }

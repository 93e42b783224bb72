-- Tests and what they say. Assumes nothing.
use Rattle.std.proofs.Common.{ℕ, zero, suc, ◌≤◌, ◌<◌, ◌≡◌, refl, sym, Bool, true, false, not, ◌&&◌, ◌||◌, ◌⊎◌, ◌≢◌, inl, inr, ⊎_elim, List, [], ◌∷◌, arith, T, leb, ltb, eqb, leb→le, le→leb, ltb→lt, lt→ltb, eqb→eq}
use native.Mathlib.Decide.{ℕ_discrete}
use lib.Dec.{eqb_refl}
use Rattle.costs.specs.Range.{all_to}
use Rattle.costs.specs.Net.{All}
use Rattle.costs.specs.Tests.{Decides, between, every, among, different, Different}

pub is_true : (b : Bool) → T b → b ≡ true
is_true true t = refl
is_true false t = absurd t

pub is_false : (b : Bool) → (T b → ⊥) → b ≡ false
is_false true t = absurd (t tt)
is_false false t = refl

pub so : {b : Bool} → b ≡ true → T b
so e = rw e tt

pub not_so : {b : Bool} → b ≡ false → T b → ⊥
not_so e t = rw e at t

pub same_test : (a b : Bool) → (T a → T b) → (T b → T a) → a ≡ b
same_test true b f g = sym (is_true b (f tt))
same_test false b f g = sym (is_false b g)

pub both : (a b : Bool) → T (a && b) → T a × T b
both true b t = (tt, t)
both false b t = absurd t

pub and : (a b : Bool) → T a → T b → T (a && b)
and true b s t = t
and false b s t = absurd s

-- as a function that returns a flag has it
pub yes_by : {b : Bool} {A : Type 0} → Decides b A → A → true ≡ b
yes_by {b} d h = sym (is_true b (d.finds h))

pub no_by : {b : Bool} {A : Type 0} → Decides b A → (A → ⊥) → false ≡ b
no_by {b} d h = sym (is_false b (λ t. h (d.says t)))

pub by_leb : (m n : ℕ) → Decides (leb m n) (m ≤ n)
by_leb m n = record { says = leb→le m n; finds = le→leb m n }

pub by_ltb : (m n : ℕ) → Decides (ltb m n) (m < n)
by_ltb m n = record { says = ltb→lt m n; finds = lt→ltb m n }

pub by_eqb : (m n : ℕ) → Decides (eqb m n) (m ≡ n)
by_eqb m n = record { says = eqb→eq m n; finds = λ e. rw e (eqb_refl n) }

pub by_self : (b : Bool) → Decides b (T b)
by_self b = record { says = λ t. t; finds = λ t. t }

pub by_and : {a b : Bool} {A B : Type 0} → Decides a A → Decides b B → Decides (a && b) (A × B)
by_and {a} {b} x y = record { says = λ t. (x.says (both a b t).0, y.says (both a b t).1); finds = λ h. and a b (x.finds h.0) (y.finds h.1) }

pub by_map : {a : Bool} {A B : Type 0} → (A → B) → (B → A) → Decides a A → Decides a B
by_map f g x = record { says = λ t. f (x.says t); finds = λ h. x.finds (g h) }

pub by_or : (a b : Bool) {A B : Type 0} → Decides a A → Decides b B → Decides (a || b) (A ⊎ B)
by_or true b x y = record { says = λ t. inl (x.says tt); finds = λ h. tt }
by_or false b x y = record { says = λ t. inr (y.says t); finds = λ h. ⊎_elim (λ e. absurd (x.finds e)) y.finds h }

pub by_not : (a : Bool) {A : Type 0} → Decides a A → Decides (not a) (A → ⊥)
by_not true x = record { says = λ t. absurd t; finds = λ h. h (x.says tt) }
by_not false x = record { says = λ t h. x.finds h; finds = λ h. tt }

pub by_all : (n : ℕ) (t : ℕ → Bool) (A : ℕ → Type 0) → ((e : ℕ) → Decides (t e) (A e)) → Decides (all_to n t) ((e : ℕ) → e < n → A e)
by_all zero t A d = record { says = λ x e l. absurd (omega arith); finds = λ h. tt }
by_all (suc n) t A d =
    by_map (λ h e l. elim (ℕ_discrete e n) [ yes q ↦ rw q h.1 | no q ↦ h.0 e (omega arith) ]) (λ h. ((λ e l. h e (omega arith)), h n (omega arith)))
    (by_and (by_all n t A d) (d n))

pub by_every : (t : ℕ → Bool) (A : ℕ → Type 0) → ((v : ℕ) → Decides (t v) (A v)) → (vs : List ℕ) → Decides (every t vs) (All A vs)
by_every t A d [] = record { says = λ x. tt; finds = λ h. tt }
by_every t A d (v ∷ vs) = by_and (d v) (by_every t A d vs)

pub by_between : (lo hi x : ℕ) → Decides (between lo hi x) ((lo ≤ x) × (x ≤ hi))
by_between lo hi x = by_and (by_leb lo x) (by_leb x hi)

by_absent : (v : ℕ) (vs : List ℕ) → Decides (not (among v vs)) (All (λ w. v ≢ w) vs)
by_absent v [] = record { says = λ x. tt; finds = λ h. tt }
by_absent v (w ∷ ws) =
    by_map (λ h. ((λ e. h (inl e)), (by_absent v ws).says ((by_not (among v ws) (by_self (among v ws))).finds (λ x. h (inr x)))))
    (λ h. ⊎_elim (λ e. h.0 e) (λ x. (by_not (among v ws) (by_self (among v ws))).says ((by_absent v ws).finds h.1) x))
    (by_not (eqb v w || among v ws) (by_or (eqb v w) (among v ws) (by_eqb v w) (by_self (among v ws))))

pub by_different : (vs : List ℕ) → Decides (different vs) (Different vs)
by_different [] = record { says = λ x. tt; finds = λ h. tt }
by_different (v ∷ vs) = by_and (by_absent v vs) (by_different vs)

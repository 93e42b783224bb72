-- What a reading that came through says of its steps. Assumes nothing.
use Rattle.std.proofs.Common.{ℕ, ◌≡◌, refl, Bool, true, false, arith}
use Rattle.answers.specs.declared.Refusal.{Refusal}
use Rattle.tokens.specs.Tokens.{Text}
use Rattle.tokens.specs.Steps.{Got, got, refused, and_then, demand}

-- each step came through
pub and_then_lem : {A B : Type 0} (g : Got A) (f : A → ℕ → Got B) (b : B) (next : ℕ) → got b next ≡ and_then g f
    → (a : A) × (at : ℕ) × (g ≡ got a at) × (got b next ≡ f a at)
unfolding and_then
and_then_lem (got a at) f b next e = (a, at, refl, e)
and_then_lem (refused refusal) f b next e = absurd (let z : ◌≡◌ {A = ℕ} 0 1 = cc in omega arith)

-- what was demanded holds
pub demanded : {B : Type 0} (holds : Bool) (refusal : Refusal) (text : Text) (at : ℕ) (f : Unit {0} → ℕ → Got B) (b : B) (next : ℕ)
    → got b next ≡ and_then (demand holds refusal text at) f → (holds ≡ true) × (got b next ≡ f tt at)
unfolding and_then demand
demanded true refusal text at f b next e = (refl, e)
demanded false refusal text at f b next e = absurd (let z : ◌≡◌ {A = ℕ} 0 1 = cc in omega arith)

pub same-value : {A : Type 0} (a b : A) (m n : ℕ) → got a m ≡ got b n → a ≡ b
same-value a b m n e = cc

pub same_next : {A : Type 0} (a b : A) (m n : ℕ) → got a m ≡ got b n → m ≡ n
same_next a b m n e = cc

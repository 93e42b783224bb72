-- What each step of reading keeps: it asks the text only where reading has come to, and what it refuses is 2 to 6. Assumes nothing.
use Rattle.std.proofs.Common.{ℕ, ◌≤◌, ◌≡◌, refl, Bool, true, false, cond, List, arith, ltb, length}
use Rattle.std.specs.Prelude.{Option, Some, None}
use Rattle.answers.specs.Answers.{refusal_number}
use Rattle.answers.specs.declared.Refusal.{Refusal}
use Rattle.tokens.specs.Tokens.{Text}
use Rattle.tokens.specs.Steps.{Got, got, refused, and_then, demand}
use Rattle.tokens.specs.Numbers.{value_of, taken, any_number, number_in}
use Rattle.tokens.specs.Names.{is_name}
use Rattle.tokens.specs.Words.{name, same, place_among, word, follows, finish}

-- "token missing or not of its kind" up to "text after the last function"
abbrev pub OfTokens : Refusal → Type 0
OfTokens a = (2 ≤ refusal_number a) × (refusal_number a ≤ 6)

-- two texts that have the same tokens at the positions R, which reading does not leave
pub record Meet (R : ℕ → Type 0) (s t : Text) : Type 0 where
  pub onward : (at : ℕ) → R at → R (s at).end
  pub meets : (at : ℕ) → R at → s at ≡ t at

-- what a step of reading finds in the one, it finds in the other
pub record Alike (R : ℕ → Type 0) {A : Type 0} (g h : Got A) : Type 0 where
  pub same : g ≡ h
  pub stays : (a : A) (next : ℕ) → g ≡ got a next → R next
  pub refuses : (a : Refusal) → g ≡ refused a → OfTokens a

module _ {R : ℕ → Type 0} where
  pub alike_pure : {A : Type 0} (a : A) (at : ℕ) → R at → Alike R (got a at) (got a at)
  alike_pure a at r = record { same = refl; stays = λ b next e. let q : at ≡ next = cc in rw (← q) r; refuses = λ b e. absurd (let z : ◌≡◌ {A = ℕ} 0 1 = cc in omega arith) }

  pub alike_refused : {A : Type 0} (a : Refusal) → OfTokens a → Alike R {A = A} (refused a) (refused a)
  alike_refused a o = record { same = refl; stays = λ b next e. absurd (let z : ◌≡◌ {A = ℕ} 0 1 = cc in omega arith); refuses = λ b e. let q : a ≡ b = cc in rw (← q) o }

  pub alike_then : {A B : Type 0} {g h : Got A} {f k : A → ℕ → Got B} → Alike R g h → ((a : A) (next : ℕ) → R next → Alike R (f a next) (k a next)) → Alike R (and_then g f) (and_then h k)
  unfolding and_then
  alike_then {g = got a at} x y = rw (← x.same) (y a at (x.stays a at refl))
  alike_then {g = refused a} x y = rw (← x.same) (alike_refused a (x.refuses a refl))

  alike_cond : {A : Type 0} (b : Bool) {f g h k : Got A} → Alike R f h → Alike R g k → Alike R (cond b f g) (cond b h k)
  alike_cond true x y = x
  alike_cond false x y = y

  module _ {s t : Text} (m : Meet R s t) where
    pub alike_demand : (b : Bool) (a : Refusal) (at : ℕ) → OfTokens a → R at → Alike R (demand b a s at) (demand b a t at)
    unfolding demand
    alike_demand true a at o r = alike_pure tt at r
    alike_demand false a at o r = alike_refused a o

    pub alike_any : (at : ℕ) → R at → Alike R (any_number s at) (any_number t at)
    unfolding any_number
    alike_any at r = rw (← m.meets at r) (go (value_of (s at).bytes))
      where
        go : (v : Option ℕ) → Alike R (taken (s at) v) (taken (s at) v)
        go (Some v) = alike_pure _ _ (m.onward at r)
        go None = alike_refused _ (omega arith, omega arith)

    pub alike_in : (least most at : ℕ) → R at → Alike R (number_in least most s at) (number_in least most t at)
    unfolding number_in
    alike_in least most at r = alike_then (alike_any at r) (λ x next q. alike_then (alike_demand _ _ next (omega arith, omega arith) q) (λ u end w. alike_pure x end w))

    pub alike_name : (at : ℕ) → R at → Alike R (name s at) (name t at)
    unfolding name
    alike_name at r = rw (← m.meets at r) (alike_cond (is_name (s at).bytes) (alike_pure tt _ (m.onward at r)) (alike_refused _ (omega arith, omega arith)))

    pub alike_word : (ws : List (List ℕ)) (at : ℕ) → R at → Alike R (word ws s at) (word ws t at)
    unfolding word
    alike_word ws at r = rw (← m.meets at r) (alike_cond (ltb (place_among ws (s at).bytes) (length ws)) (alike_pure _ _ (m.onward at r)) (alike_refused _ (omega arith, omega arith)))

    pub alike_follows : (w : List ℕ) (at : ℕ) → R at → Alike R (follows w s at) (follows w t at)
    unfolding follows
    alike_follows w at r = rw (← m.meets at r) (alike_cond (same (s at).bytes w) (alike_pure _ _ (m.onward at r)) (alike_pure _ _ r))

    pub alike_finish : (at : ℕ) → R at → Alike R (finish s at) (finish t at)
    unfolding finish
    alike_finish at r = rw (← m.meets at r) (alike_cond (ltb 0 (length (s at).bytes)) (alike_refused _ (omega arith, omega arith)) (alike_pure tt at r))

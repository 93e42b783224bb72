-- Laws of rules in their order. Assumes nothing.
use Rattle.std.proofs.Common.{Err, ℕ, ◌≡◌, refl, Bool, true, false, cond, List, [], ◌∷◌, ◌++◌, arith, T}
use Rattle.spelling.specs.Spelling.{Kept, no_fault}
use Rattle.desk.specs.Faults.{Rule, fault_in, AllKept}

pub all_kept : (rs : List Rule) → fault_in rs no_fault ≡ no_fault → AllKept rs
all_kept [] e = tt
all_kept (r ∷ rs) e = go r.kept e (all_kept rs)
  where
    go : (t : Bool) → cond t (fault_in rs no_fault) (Err r.word) ≡ no_fault → (fault_in rs no_fault ≡ no_fault → AllKept rs) → T t × AllKept rs
    go true e f = (tt, f e)
    go false e f = absurd (let z : ◌≡◌ {A = ℕ} 0 1 = cc in omega arith)

-- where one of the rules is broken nothing later matters; where none is, what comes later is the fault
pub fault_here : (rs : List Rule) (later : Kept) (w : ℕ) → fault_in rs no_fault ≡ Err w → fault_in rs later ≡ Err w
fault_here [] later w e = absurd (let z : ◌≡◌ {A = ℕ} 0 1 = cc in omega arith)
fault_here (r ∷ rs) later w e = go r.kept e (fault_here rs later w)
  where
    go : (t : Bool) → cond t (fault_in rs no_fault) (Err r.word) ≡ Err w → (fault_in rs no_fault ≡ Err w → fault_in rs later ≡ Err w) → cond t (fault_in rs later) (Err r.word) ≡ Err w
    go true e f = f e
    go false e f = e

pub fault_later : (rs : List Rule) (later : Kept) → fault_in rs no_fault ≡ no_fault → fault_in rs later ≡ later
fault_later [] later e = refl
fault_later (r ∷ rs) later e = go r.kept e (fault_later rs later)
  where
    go : (t : Bool) → cond t (fault_in rs no_fault) (Err r.word) ≡ no_fault → (fault_in rs no_fault ≡ no_fault → fault_in rs later ≡ later) → cond t (fault_in rs later) (Err r.word) ≡ later
    go true e f = f e
    go false e f = absurd (let z : ◌≡◌ {A = ℕ} 0 1 = cc in omega arith)

pub fault_append : (rs qs : List Rule) (later : Kept) → fault_in (rs ++ qs) later ≡ fault_in rs (fault_in qs later)
fault_append [] qs later = refl
fault_append (r ∷ rs) qs later = rw (fault_append rs qs later)

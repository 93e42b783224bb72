-- Laws of the rules of the header, as the code meets them. Assumes nothing.
use Rattle.std.proofs.Common.{Err, ℕ, ◌≤◌, ◌≡◌, sym, ◌∙◌, Bool, true, false, cond, arith, eqb}
use Rattle.spelling.specs.Spelling.{Kept, no_fault}
use Rattle.desk.specs.Faults.{fault_in}
use Rattle.desk.specs.Checking.{claim_rules, shape_rules, count_of, header_rules}
use Rattle.desk.proofs.FaultLaws.{fault_here, fault_later, fault_append}

pub count_most : (vars : ℕ) (word : ℕ → ℕ) → count_of vars word ≤ vars
count_most vars word = go (eqb (word 2) 0)
  where
    go : (t : Bool) → cond t vars 0 ≤ vars
    go true = omega arith
    go false = omega arith

module _ (top vars : ℕ) (word : ℕ → ℕ) (many : ℕ) (claim : Kept) (said : claim ≡ fault_in (claim_rules top vars word) no_fault) where
  pub header_claim : (w : ℕ) → claim ≡ Err w → Err w ≡ fault_in (header_rules top vars word many) no_fault
  unfolding header_rules
  header_claim w e =
      sym (fault_append (claim_rules top vars word) (shape_rules word many (count_of vars word)) no_fault ∙ fault_here (claim_rules top vars word) _ w (sym said ∙ e))

  pub header_shape : claim ≡ no_fault → (count : ℕ) → count ≡ count_of vars word → (shape : Kept) → shape ≡ fault_in (shape_rules word many count) no_fault
      → shape ≡ fault_in (header_rules top vars word many) no_fault
  unfolding header_rules
  header_shape e count q shape s =
      s ∙ rw q (sym (fault_append (claim_rules top vars word) (shape_rules word many (count_of vars word)) no_fault ∙ fault_later (claim_rules top vars word) _ (sym said ∙ e)))

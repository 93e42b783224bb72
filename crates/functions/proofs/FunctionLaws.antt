-- Laws of one function. Assumes nothing.
use Rattle.std.proofs.Common.{arith, ℕ, ◌≡◌, ◌+◌, ◌≤◌, List, [], ◌∷◌}
use Rattle.tokens.specs.Tokens.{Text}
use Rattle.tokens.specs.Steps.{Got, got, refused}
use Rattle.tokens.proofs.StepLaws.{and_then_lem, same-value}
use Rattle.stretches.specs.Sizes.{product}
use Rattle.placing.specs.Drafts.{Draft, put}
use Rattle.functions.specs.Functions.{placed, function}

pub one_product : (d : ℕ) → product (d ∷ []) ≡ d
unfolding product
one_product d = omega arith

-- a function is numbered or not
pub function_numbers : (d : Draft) (text : Text) (at : ℕ) (d' : Draft) (next : ℕ) → got d' next ≡ function d text at → d'.net.functions ≤ d.net.functions + 1
unfolding function
function_numbers d text at d' next e =
    let arity = and_then_lem _ _ _ _ e in
    let xs = and_then_lem _ _ _ _ arity.3 in
    held xs.0 _ xs.3
  where
    one_more : (xs cs : List ℕ) → (put d xs cs).net.functions ≤ d.net.functions + 1
    one_more [] cs = omega arith
    one_more (x ∷ []) cs = omega arith
    one_more (x ∷ y ∷ zs) cs = omega arith

    held : (xs : List ℕ) (g : Got (List ℕ)) → got d' next ≡ placed d xs g → d'.net.functions ≤ d.net.functions + 1
    held xs (got cs after) e = let q : d' ≡ put d xs cs = same-value _ _ _ _ e in rw q (one_more xs cs)
    held xs (refused refusal) e = absurd (let z : ◌≡◌ {A = ℕ} 0 1 = cc in omega arith)

-- How many shifts a pass makes at most: one for each value of each place of a scope, and one for each variable. Assumes nothing.
use Rattle.std.proofs.Common.{ℕ, zero, suc, ◌+◌, ◌-◌, ◌*◌, ◌≤◌, ◌<◌, Bool, List, [], ◌∷◌, arith, suc-mul, mul-le-mul, length, length-append}
use Rattle.costs.specs.Limits.{vars_most, size_most, functions_most, arity_most}
use Rattle.costs.specs.Net.{Net, Costs, Sound, All}
use Rattle.costs.specs.Networks.{Outline, net_of, in_row, Scoped}
use Rattle.costs.proofs.NetLaws.{All-map}
use Rattle.costs.proofs.RowLaws.{scope_all, scoped_sound}
use Rattle.boxes.specs.Loops.{each_to}
use Rattle.boxes.proofs.LoopLaws.{each_adds}
use Rattle.shifts.specs.declared.moves.Move.{Move}
use Rattle.shifts.specs.declared.moves.Move.TheVariants.{Project, Raise}
use Rattle.shifts.specs.Nodes.{fixing, least}
use Rattle.shifts.proofs.PartLaws.{scope_long as scope_arity}
use Rattle.passes.specs.Passing.{Work, shift_by, at_value, at_scope, projections, at_variable, pass, Within}
use Rattle.passes.proofs.PassIsLegal.{choose}

module _ (n : Net) (live : ℕ → ℕ → Bool) where
  abbrev long : Work → ℕ
  long w = length w.shifts

  by_long : (x : ℕ → Move) (m : ℕ) (w : Work) → long (shift_by n live x m w) ≤ long w + 1
  by_long x zero w = omega arith
  by_long x (suc m) w = omega (arith, length-append w.shifts (x (suc m) ∷ []))

  value_long : (f i a : ℕ) (w : Work) → long (at_value n live f i a w) ≤ long w + 1
  value_long f i a w =
      choose (λ x. long x ≤ long w + 1) (live i a) _ w (λ t. by_long (Project f i a) (least n (fixing live i a) w.costs.at (n.vars + f)) w) (omega arith)

  scope_long : (S f : ℕ) (is : List ℕ) → All (λ i. n.size i ≤ S) is → (w : Work) → long (at_scope n live f is w) ≤ long w + length is * S
  scope_long S f [] h w = omega arith
  scope_long S f (i ∷ is) h w =
      omega (arith, scope_long S f is h.1 (each_to (at_value n live f i) (n.size i) w), each_adds long (at_value n live f i) 1 (n.size i) (λ a l x. value_long f i a x) w, suc-mul (length is) S)

pub pass_length : (N S F A : ℕ) (n : Net) → Sound n → Within N S F A n → (live : ℕ → ℕ → Bool) (held : Costs) → length (pass n live held).shifts ≤ F * (A * S) + N
unfolding pass
pass_length N S F A n good limits live held =
    omega (
      arith,
      limits.vars,
      each_adds (long n live) (at_variable n live) 1 n.vars (λ i l w. by_long n live (Raise i) (least n live w.costs.at i) w) (projections n live (record { costs = held; shifts = [] })),
      each_adds (long n live) (λ f. at_scope n live f (n.scope (n.vars + f))) (A * S) (n.parts - n.vars) (λ f l w. one f (omega arith) w) (record { costs = held; shifts = [] }),
      mul-le-mul {n₁ = n.parts - n.vars} {m₁ = A * S} {n₂ = F} {m₂ = A * S} limits.functions (omega arith),
    )
  where
    one : (f : ℕ) → n.vars + f < n.parts → (w : Work) → long n live (at_scope n live f (n.scope (n.vars + f)) w) ≤ long n live w + A * S
    one f l w = omega (
      arith,
      scope_long n live S f (n.scope (n.vars + f)) (All-map limits.sizes (n.scope (n.vars + f)) (good.known (n.vars + f) l)) w,
      mul-le-mul {n₁ = length (n.scope (n.vars + f))} {m₁ = S} {n₂ = A} {m₂ = S} (limits.arity (n.vars + f) l) (omega arith),
    )

-- the judged numbers are within document 01's limits
pub scoped_within : (o : Outline) (sizes rows : List ℕ) → Scoped o.vars o.functions sizes rows → Within vars_most size_most functions_most arity_most (net_of o sizes rows)
scoped_within o sizes rows r = record {
  vars = r.vars_few;
  sizes = r.small;
  functions = omega (arith, r.functions_few);
  arity = scope_all (λ vs. length vs ≤ 3) o.vars o.functions rows (λ v l. omega arith) (λ f l. omega (arith, scope_arity (in_row rows f) (r.arity_at_most f l), r.arity_at_most f l));
}

pub pass_length_01 : (o : Outline) (sizes rows : List ℕ) → Scoped o.vars o.functions sizes rows → (live : ℕ → ℕ → Bool) (held : Costs)
    → length (pass (net_of o sizes rows) live held).shifts ≤ functions_most * (3 * size_most) + vars_most
pass_length_01 o sizes rows r live held =
    pass_length vars_most size_most functions_most arity_most (net_of o sizes rows) (scoped_sound o sizes rows r) (scoped_within o sizes rows r) live held

-- The costs that are read: as many as a function has tuples, each at most k. Assumes nothing.
use Rattle.std.proofs.Common.{ℕ, zero, suc, ◌≤◌, min, ◌≡◌, refl, sym, ap, ◌∙◌, Bool, true, false, cond, ◌⊎◌, inl, inr, List, [], ◌∷◌, map, arith, eqb, length, take, drop, set, replicate, length-append, length-set, eq-eqb}
use lib.ListN.{length-replicate}
use Rattle.costs.specs.Net.{All}
use Rattle.costs.proofs.NetLaws.{All-append}
use Rattle.tokens.specs.Tokens.{Text}
use Rattle.tokens.specs.Steps.{got}
use Rattle.tokens.proofs.StepLaws.{and_then_lem, same-value}
use Rattle.stretches.specs.Sizes.{product}
use Rattle.listed_costs.specs.Listed.{unlisted, listing, settled, listed}
use Rattle.costs.specs.Range.{list_to}
use Rattle.soft_sums.specs.Soft.{gap_cost, soft_cost, soft_costs}
use Rattle.function_costs.specs.FunctionCosts.{marked, costs}
use Rattle.placing.specs.Drafts.{sums}
use Rattle.soft_sums.specs.declared.Mode.{Mode}
use Rattle.soft_sums.specs.declared.Mode.TheVariants.{Hard, Lin, Quad}
use Rattle.soft_sums.specs.declared.Soft.{Soft}
use Rattle.reader.specs.Ties.Fine.{Capped, Costed}

module _ (P : ℕ → Type 0) where
  pub all_take : (n : ℕ) (xs : List ℕ) → All P xs → All P (take n xs)
  all_take zero xs h = tt
  all_take (suc n) [] h = tt
  all_take (suc n) (x ∷ xs) h = (h.0, all_take n xs h.1)

  pub all_drop : (n : ℕ) (xs : List ℕ) → All P xs → All P (drop n xs)
  all_drop zero xs h = h
  all_drop (suc n) [] h = tt
  all_drop (suc n) (x ∷ xs) h = all_drop n xs h.1

  pub all_replicate : (n c : ℕ) → P c → All P (replicate n c)
  all_replicate zero c p = tt
  all_replicate (suc n) c p = (p, all_replicate n c p)

  all_set : (xs : List ℕ) (i c : ℕ) → All P xs → P c → All P (set xs i c)
  all_set [] i c h p = h
  all_set (x ∷ xs) zero c h p = (p, h.1)
  all_set (x ∷ xs) (suc i) c h p = (h.0, all_set xs i c h.1 p)

pub capped_sums : (top : ℕ) (xs cs : List ℕ) → Capped top (sums top xs cs)
unfolding sums
capped_sums top [] cs = tt
capped_sums top (x ∷ xs) cs = (omega arith, capped_sums top xs (drop 1 cs))

-- a cell is unlisted or holds a cost
abbrev Cell : ℕ → ℕ → Type 0
Cell top c = (c ≡ unlisted) ⊎ (c ≤ top)

listing-cells : (top : ℕ) (ds : List ℕ) (left : ℕ) (cells : List ℕ) (text : Text) (at : ℕ) (out : List ℕ) (next : ℕ) → got out next ≡ listing top ds left cells text at
    → All (Cell top) cells → (length out ≡ length cells) × All (Cell top) out
unfolding listing
listing-cells top ds zero cells text at out next e h = let q : out ≡ cells = same-value _ _ _ _ e in rw q (refl, h)
listing-cells top ds (suc left) cells text at out next e h =
    let entry = and_then_lem _ _ _ _ e in
    let cost = and_then_lem _ _ _ _ entry.3 in
    let c = min top cost.0.value in
    let r = listing-cells top ds left (set cells entry.0 c) text cost.1 out next cost.3 (all_set (Cell top) cells entry.0 c h (inr (omega arith))) in
    (r.0 ∙ length-set cells entry.0 c, r.1)

pub listing_long : (top : ℕ) (ds : List ℕ) (left : ℕ) (cells : List ℕ) (text : Text) (at : ℕ) (out : List ℕ) (next : ℕ) → got out next ≡ listing top ds left cells text at → length out ≡ length cells
unfolding listing
listing_long top ds zero cells text at out next e = ap length (same-value _ _ _ _ e)
listing_long top ds (suc left) cells text at out next e =
    let entry = and_then_lem _ _ _ _ e in
    let cost = and_then_lem _ _ _ _ entry.3 in
    let c = min top cost.0.value in
    listing_long top ds left (set cells entry.0 c) text cost.1 out next cost.3 ∙ length-set cells entry.0 c

settled_one : (top default c : ℕ) → default ≤ top → Cell top c → settled default c ≤ top
unfolding settled
settled_one top default c h (inl e) = rw (eq-eqb c unlisted e) h
settled_one top default c h (inr l) = go (eqb c unlisted)
  where
    go : (b : Bool) → cond b default c ≤ top
    go true = h
    go false = l

settled_capped : (top default : ℕ) (cells : List ℕ) → default ≤ top → All (Cell top) cells → Capped top (map (settled default) cells)
settled_capped top default [] h a = tt
settled_capped top default (c ∷ cells) h a = (settled_one top default c h a.0, settled_capped top default cells h a.1)

map-length : (f : ℕ → ℕ) (xs : List ℕ) → length (map f xs) ≡ length xs
map-length f [] = refl
map-length f (x ∷ xs) = ap suc (map-length f xs)

listed_costed : (top : ℕ) (ds : List ℕ) (most : ℕ) (text : Text) (at : ℕ) (cs : List ℕ) (next : ℕ) → got cs next ≡ listed top ds most text at → Costed top (product ds) cs
unfolding listed
listed_costed top ds most text at cs next e =
    let default = and_then_lem _ _ _ _ e in
    let many = and_then_lem _ _ _ _ default.3 in
    let cells = and_then_lem _ _ _ _ many.3 in
    let q : cs ≡ map (settled (min top default.0.value)) cells.0 = same-value _ _ _ _ cells.3 in
    let r = listing-cells top ds many.0.value (replicate (product ds) unlisted) text many.1 cells.0 cells.1 (sym cells.2) (all_replicate (Cell top) (product ds) unlisted (inl refl)) in
    rw q (record {
      many_are = map-length _ cells.0 ∙ r.0 ∙ length-replicate (product ds) unlisted;
      capped = settled_capped top (min top default.0.value) cells.0 (omega arith) r.1;
    })

pub gap_capped : (top : ℕ) (mode : Mode) (base g : ℕ) → gap_cost top mode base g ≤ top
unfolding gap_cost
gap_capped top Hard base g = go (eqb g 0)
  where
    go : (b : Bool) → cond b 0 top ≤ top
    go true = omega arith
    go false = omega arith
gap_capped top Lin base g = omega arith
gap_capped top Quad base g = omega arith

listed_to : (top : ℕ) (n : ℕ) (g : ℕ → ℕ) → ((e : ℕ) → g e ≤ top) → Costed top n (list_to n g)
listed_to top zero g h = record { many_are = refl; capped = tt }
listed_to top (suc n) g h =
    let r = listed_to top n g h in
    record { many_are = omega (arith, length-append (list_to n g) (g n ∷ []), r.many_are); capped = All-append (λ c. c ≤ top) (list_to n g) (g n ∷ []) r.capped (h n, tt) }

soft_costed : (top : ℕ) (ds : List ℕ) (soft : Soft) → Costed top (product ds) (soft_costs top ds soft)
unfolding soft_costs soft_cost
soft_costed top ds soft = listed_to top (product ds) (soft_cost top soft ds) (λ e. gap_capped top _ _ _)

marked_costed : (top : ℕ) (ds : List ℕ) (text : Text) (at : ℕ) (cs : List ℕ) (next : ℕ) → got cs next ≡ marked top ds text at → Costed top (product ds) cs
unfolding marked
marked_costed top ds text at cs next e =
    let keyword = and_then_lem _ _ _ _ e in
    let soft = and_then_lem _ _ _ _ keyword.3 in
    let q : cs ≡ soft_costs top ds soft.0 = same-value _ _ _ _ soft.3 in
    rw q (soft_costed top ds soft.0)

pub costs_costed : (top : ℕ) (ds : List ℕ) (text : Text) (at : ℕ) (cs : List ℕ) (next : ℕ) → got cs next ≡ costs top ds text at → Costed top (product ds) cs
unfolding costs
costs_costed top [] text at cs next e = listed_costed top [] 0 text at cs next e
costs_costed top (d ∷ ds) text at cs next e =
    let found = and_then_lem _ _ _ _ e in
    choose found.0 found.1 found.3
  where
    choose : (b : Bool) (after : ℕ) → got cs next ≡ cond b (marked top (d ∷ ds)) (listed top (d ∷ ds) (product (d ∷ ds))) text after → Costed top (product (d ∷ ds)) cs
    choose true after f = marked_costed top (d ∷ ds) text after cs next f
    choose false after f = listed_costed top (d ∷ ds) (product (d ∷ ds)) text after cs next f

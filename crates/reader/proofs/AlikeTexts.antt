-- Reading looks at nothing but the tokens of the text, from the first on, and their places: two texts of one length that have the same tokens at the same places
-- read alike; and what the tokens are refused with is 2 to 6. Assumes nothing.
use Rattle.std.proofs.Common.{ℕ, zero, suc, ◌≡◌, refl, Bool, true, false, cond, List, [], ◌∷◌, arith, length, replicate}
use Rattle.costs.specs.Limits.{vars_most, size_most, functions_most, cost_most, arity_most}
use Rattle.answers.specs.declared.Refusal.{Refusal}
use Rattle.tokens.specs.Tokens.{Text, text_of}
use Rattle.tokens.specs.Runs.{Reached, begin, after}
use Rattle.tokens.specs.Steps.{Got, got, refused}
use Rattle.tokens.proofs.EachStep.{OfTokens, Meet, Alike, alike_pure, alike_refused, alike_then, alike_demand, alike_any, alike_in, alike_name, alike_word, alike_follows, alike_finish}
use Rattle.headings.specs.Headers.{header}
use Rattle.headings.specs.Domains.{size, domains}
use Rattle.stretches.specs.Sizes.{product}
use Rattle.scopes.specs.Scopes.{scope_sizes, variable, scope}
use Rattle.listed_costs.specs.Listed.{value, tuple, listing, listed}
use Rattle.soft_sums.specs.SoftLimits.{base_most, limit_most}
use Rattle.soft_sums.specs.Soft.{modes, comparators, soft_sum}
use Rattle.function_costs.specs.FunctionCosts.{mark, keywords, marked, costs}
use Rattle.placing.specs.Drafts.{Draft}
use Rattle.functions.specs.Functions.{placed, function, functions}
use Rattle.reader.specs.Reading.{started, rest, body, network, reading}

module _ {R : ℕ → Type 0} {s t : Text} (m : Meet R s t) where
  header_alike : (at : ℕ) → R at → Alike R (header s at) (header t at)
  unfolding header
  header_alike at r =
      alike_then (alike_name m at r) (λ u a r.
      alike_then (alike_in m 0 vars_most a r) (λ vars b r.
      alike_then (alike_in m 0 size_most b r) (λ greatest c r.
      alike_then (alike_demand m _ _ c (omega arith, omega arith) r) (λ u d r.
      alike_then (alike_in m 0 functions_most d r) (λ many e r.
      alike_then (alike_in m 1 cost_most e r) (λ top f r. alike_pure _ f r))))))

  size_alike : (greatest left largest entries at : ℕ) → R at → Alike R (size greatest left largest entries s at) (size greatest left largest entries t at)
  unfolding size
  size_alike greatest left largest entries at r =
      alike_then (alike_in m 1 size_most at r) (λ d a r.
      alike_then (alike_demand m _ _ a (omega arith, omega arith) r) (λ u b r.
      alike_then (alike_demand m _ _ b (omega arith, omega arith) r) (λ u c r. alike_pure d c r)))

  domains_alike : (greatest left v largest entries : ℕ) (sizes : List ℕ) (at : ℕ) → R at → Alike R (domains greatest left v largest entries sizes s at) (domains greatest left v largest entries sizes t at)
  unfolding domains
  domains_alike greatest zero v largest entries sizes at r = alike_pure _ at r
  domains_alike greatest (suc left) v largest entries sizes at r = alike_then (size_alike greatest left largest entries at r) (λ d a r. domains_alike greatest left _ _ _ _ a r)

  variable_alike : (vars : ℕ) (sizes : List ℕ) (entries left : ℕ) (xs : List ℕ) (at : ℕ) → R at → Alike R (variable vars sizes entries left xs s at) (variable vars sizes entries left xs t at)
  unfolding variable
  variable_alike vars sizes entries left xs at r =
      alike_then (alike_any m at r) (λ x a r.
      alike_then (alike_demand m _ _ a (omega arith, omega arith) r) (λ u b r.
      alike_then (alike_demand m _ _ b (omega arith, omega arith) r) (λ u c r. alike_pure x c r)))

  scope_alike : (vars : ℕ) (sizes : List ℕ) (entries left : ℕ) (xs : List ℕ) (at : ℕ) → R at → Alike R (scope vars sizes entries left xs s at) (scope vars sizes entries left xs t at)
  unfolding scope
  scope_alike vars sizes entries zero xs at r = alike_pure xs at r
  scope_alike vars sizes entries (suc left) xs at r = alike_then (variable_alike vars sizes entries left xs at r) (λ x a r. scope_alike vars sizes entries left _ a r)

  value_alike : (cells : List ℕ) (d left before at : ℕ) → R at → Alike R (value cells d left before s at) (value cells d left before t at)
  unfolding value
  value_alike cells d left before at r =
      alike_then (alike_any m at r) (λ x a r.
      alike_then (alike_demand m _ _ a (omega arith, omega arith) r) (λ u b r.
      alike_then (alike_demand m _ _ b (omega arith, omega arith) r) (λ u c r. alike_pure x c r)))

  tuple_alike : (cells ds : List ℕ) (entry at : ℕ) → R at → Alike R (tuple cells ds entry s at) (tuple cells ds entry t at)
  unfolding tuple
  tuple_alike cells [] entry at r = alike_pure entry at r
  tuple_alike cells (d ∷ ds) entry at r = alike_then (value_alike cells d (length ds) entry at r) (λ a n r. tuple_alike cells ds _ n r)

  listing_alike : (top : ℕ) (ds : List ℕ) (left : ℕ) (cells : List ℕ) (at : ℕ) → R at → Alike R (listing top ds left cells s at) (listing top ds left cells t at)
  unfolding listing
  listing_alike top ds zero cells at r = alike_pure cells at r
  listing_alike top ds (suc left) cells at r = alike_then (tuple_alike cells ds 0 at r) (λ entry a r. alike_then (alike_any m a r) (λ cost b r. listing_alike top ds left _ b r))

  listed_alike : (top : ℕ) (ds : List ℕ) (most at : ℕ) → R at → Alike R (listed top ds most s at) (listed top ds most t at)
  unfolding listed
  listed_alike top ds most at r =
      alike_then (alike_any m at r) (λ default a r.
      alike_then (alike_in m 0 most a r) (λ many b r.
      alike_then (listing_alike top ds many.value _ b r) (λ cells c r. alike_pure _ c r)))

  marked_alike : (top : ℕ) (ds : List ℕ) (at : ℕ) → R at → Alike R (marked top ds s at) (marked top ds t at)
  unfolding marked soft_sum
  marked_alike top ds at r =
      alike_then (alike_word m keywords at r) (λ w a r.
      alike_then (
      alike_then (alike_word m modes a r) (λ mode b r.
      alike_then (alike_in m 0 base_most b r) (λ base c r.
      alike_then (alike_word m comparators c r) (λ comparator d r.
      alike_then (alike_in m 0 limit_most d r) (λ limit e r. alike_pure _ e r)))))
      (λ soft b r. alike_pure _ b r))

  costs_alike : (top : ℕ) (ds : List ℕ) (at : ℕ) → R at → Alike R (costs top ds s at) (costs top ds t at)
  unfolding costs
  costs_alike top [] at r = listed_alike top [] 0 at r
  costs_alike top (d ∷ ds) at r = alike_then (alike_follows m mark at r) go
    where
      go : (b : Bool) (a : ℕ) → R a
          → Alike R (cond b (marked top (d ∷ ds)) (listed top (d ∷ ds) (product (d ∷ ds))) s a) (cond b (marked top (d ∷ ds)) (listed top (d ∷ ds) (product (d ∷ ds))) t a)
      go true a r = marked_alike top (d ∷ ds) a r
      go false a r = listed_alike top (d ∷ ds) (product (d ∷ ds)) a r

  placed_alike : (d : Draft) (xs : List ℕ) (g h : Got (List ℕ)) → Alike R g h → Alike R (placed d xs g) (placed d xs h)
  placed_alike d xs (got cs a) h x = rw (← x.same) (alike_pure _ a (x.stays cs a refl))
  placed_alike d xs (refused a) h x = rw (← x.same) (alike_refused a (x.refuses a refl))

  function_alike : (d : Draft) (at : ℕ) → R at → Alike R (function d s at) (function d t at)
  unfolding function
  function_alike d at r =
      alike_then (alike_in m 0 arity_most at r) (λ arity a r.
      alike_then (scope_alike d.net.vars d.net.sizes (length d.table) arity.value [] a r) (λ xs b r.
      placed_alike d xs _ _ (costs_alike d.net.top (scope_sizes d.net.sizes xs) b r)))

  functions_alike : (left : ℕ) (d : Draft) (at : ℕ) → R at → Alike R (functions left d s at) (functions left d t at)
  unfolding functions
  functions_alike zero d at r = alike_pure d at r
  functions_alike (suc left) d at r = alike_then (function_alike d at r) (λ e a r. functions_alike left e a r)

  network_alike : (at : ℕ) → R at → Alike R (network s at) (network t at)
  unfolding network body rest
  network_alike at r =
      alike_then (header_alike at r) (λ head a r.
      alike_then (domains_alike head.greatest head.vars 0 0 0 (replicate vars_most 0) a r) (λ sized b r.
      alike_then (functions_alike head.functions (started head sized) b r) (λ d c r.
      alike_then (alike_finish m c r) (λ u e r. alike_pure d e r))))

goes_on : (s : List ℕ) (at : ℕ) → Reached s at → Reached s (text_of s at).end
unfolding text_of
goes_on s at r = after at r

-- the same tokens where reading comes to
pub alike : (s t : List ℕ) (room : ℕ) → length s ≡ length t → ((at : ℕ) → Reached s at → text_of s at ≡ text_of t at) → reading s room ≡ reading t room
unfolding reading
alike s t room l e = rw (l, (network_alike (record { onward = goes_on s; meets = e }) 0 begin).same)

-- and what the tokens are refused with is 2 to 6
pub network-refuses : (text : Text) (at : ℕ) (a : Refusal) → network text at ≡ refused a → OfTokens a
network-refuses text at = (network_alike {R = λ at. Unit {0}} (record { onward = λ at u. tt; meets = λ at u. refl }) at tt).refuses

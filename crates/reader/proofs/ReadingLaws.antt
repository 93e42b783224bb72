-- Laws of the whole text, by how far the reading came. Assumes nothing.
use Rattle.std.proofs.Common.{arith, ℕ, zero, suc, ◌≤◌, ◌≡◌, refl, sym, ap, ◌∙◌, List, ◌∷◌, Result, Ok, take, length, get_or, replicate, le_of_suc-le-suc, not-suc-le-zero, le-leb}
use Rattle.answers.specs.declared.Refusal.{Refusal}
use Rattle.costs.specs.Limits.{vars_most, entries_most}
use Rattle.tokens.specs.Tokens.{text_of}
use Rattle.tokens.specs.Steps.{and_then, got}
use Rattle.tokens.specs.Words.{finish}
use Rattle.tokens.specs.Ties.Outcomes.{pos_is}
use Rattle.headings.specs.Headers.{header}
use Rattle.headings.specs.Domains.{Sized, domains}
use Rattle.headings.specs.Ties.Outcomes.{header_is, domains_is}
use Rattle.headings.specs.Ties.Ranges.{InRange, Good}
use Rattle.headings.specs.declared.headers.Head.{Head}
use Rattle.headings.specs.declared.domains.Unary.{Unary}
use Rattle.headings.proofs.HeaderLaws.{header-range}
use Rattle.headings.proofs.DomainLaws.{domains_read, total_most}
use Rattle.placing.specs.Drafts.{Draft}
use Rattle.functions.specs.Functions.{functions}
use Rattle.reader.specs.ReaderLimits.{text_most}
use Rattle.reader.specs.Reading.{started, rest, body, network, fitted, reading}

pub take-replicate : (m n : ℕ) → m ≤ n → take {A = ℕ} m (replicate n 0) ≡ replicate m 0
take-replicate zero n h = refl
take-replicate (suc m) zero h = absurd (not-suc-le-zero h)
take-replicate (suc m) (suc n) h = ap (λ (l : List ℕ). 0 ∷ l) (take-replicate m n (le_of_suc-le-suc h))

-- the sizes that the code has read
abbrev sized_by : Unary → List ℕ → Sized
sized_by unary sizes = record { entries = unary.entries; sizes = sizes }

-- where the header was read
module _ (text : List ℕ) (h : Result (Head × ℕ) Refusal) (e : header_is h ≡ header (text_of text) 0) (head : Head) (next : ℕ) (was : h ≡ Ok (head, next)) where
  pub head_range : InRange head
  head_range = header-range _ _ _ _ (ap header_is (sym was) ∙ e)

  -- and the sizes
  module _ (u : Result Unary Refusal) (sizes : List ℕ) (f : domains_is u sizes ≡ domains head.greatest head.vars 0 0 0 (replicate vars_most 0) (text_of text) next)
      (unary : Unary) (had : u ≡ Ok unary) where
    pub sizes_good : Good head.vars (sized_by unary sizes)
    sizes_good = domains_read _ _ _ _ _ _ f head_range.vars_few _ had

    pub unary_few : unary.entries ≤ entries_most
    unary_few = omega (arith, sizes_good.summed, total_most head.vars (λ w. get_or sizes w 0) sizes_good.most, head_range.vars_few)

    -- and the functions, by a result r that left the draft d
    pub reading_rest : (r : Result ℕ Refusal) (d : Draft)
        → pos_is r d ≡ functions head.functions (record { net = (started head (sized_by unary sizes)).net; table = take unary.entries (replicate entries_most 0) }) (text_of text) unary.next
        → (room : ℕ) → length text ≤ text_most
        → reading text room ≡ fitted room (and_then (pos_is r d) (λ d' at. and_then (finish (text_of text) at) (λ nothing end. got d' end)))
    unfolding reading network body rest and_then
    reading_rest r d g room short =
        rw (le-leb (length text) text_most short, ← e, was, ← f, had, ← take-replicate unary.entries entries_most unary_few, ← g)

-- What is known of a header that was read. Assumes nothing.
use Rattle.std.proofs.Common.{ℕ, ◌≡◌, sym, ap}
use Rattle.tokens.specs.Tokens.{Text}
use Rattle.tokens.specs.Steps.{got}
use Rattle.tokens.proofs.StepLaws.{and_then_lem, demanded, same-value}
use Rattle.tokens.proofs.NumberLaws.{in_range}
use Rattle.headings.specs.Headers.{header}
use Rattle.headings.specs.Ties.Ranges.{InRange}
use Rattle.headings.specs.declared.headers.Head.{Head}

pub header-range : (text : Text) (at : ℕ) (head : Head) (next : ℕ) → got head next ≡ header text at → InRange head
unfolding header
header-range text at head next e =
    let name = and_then_lem _ _ _ _ e in
    let vars = and_then_lem _ _ _ _ name.3 in
    let greatest = and_then_lem _ _ _ _ vars.3 in
    let fits = demanded _ _ _ _ _ _ _ greatest.3 in
    let functions = and_then_lem _ _ _ _ fits.1 in
    let top = and_then_lem _ _ _ _ functions.3 in
    let q = same-value _ _ _ _ top.3 in
    record {
      vars_few = rw (ap (λ (h : Head). h.vars) q) (in_range _ _ _ _ _ _ (sym vars.2)).1;
      functions_few = rw (ap (λ (h : Head). h.functions) q) (in_range _ _ _ _ _ _ (sym functions.2)).1;
      top_some = rw (ap (λ (h : Head). h.top) q) (in_range _ _ _ _ _ _ (sym top.2)).0;
      top_most = rw (ap (λ (h : Head). h.top) q) (in_range _ _ _ _ _ _ (sym top.2)).1;
    }

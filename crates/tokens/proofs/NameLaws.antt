-- Laws of `is_name`: it decides what a name is, and no separator stands in a name. Assumes nothing.
use Rattle.std.proofs.Common.{ℕ, ◌≤◌, ◌≡◌, refl, ap, Bool, true, ◌&&◌, List, [], ◌∷◌, arith, length, get_or, ne_eqb}
use Rattle.std.specs.List.{list_all}
use Rattle.costs.specs.Tests.{Decides, every}
use Rattle.costs.proofs.NetLaws.{All-at}
use Rattle.costs.proofs.TestLaws.{by_map, by_and, by_between, by_every}
use Rattle.tokens.specs.TextLimits.{name_most, name_byte_least, name_byte_most}
use Rattle.tokens.specs.Tokens.{white, dark}
use Rattle.tokens.specs.Runs.{Passes}
use Rattle.tokens.specs.Names.{is_name, IsName}

pub by_name : (w : List ℕ) → Decides (is_name w) (IsName w)
unfolding is_name
by_name w =
    by_map (λ h. record { some = h.0.0; short = h.0.1; plain = h.1 }) (λ n. ((n.some, n.short), n.plain))
    (by_and (by_between 1 name_most (length w)) (by_every _ _ (by_between name_byte_least name_byte_most) w))

-- as std says that each passes a test
pub every_list_all : (t : ℕ → Bool) (w : List ℕ) → list_all t w ≡ every t w
every_list_all t [] = refl
every_list_all t (b ∷ w) = ap (λ r. t b && r) (every_list_all t w)

-- no separator stands in a name
pub name-dark : (w : List ℕ) → IsName w → Passes dark w 0 (length w)
unfolding dark white
name-dark w n = record { each = λ i l m. go (get_or w i 0) (All-at _ w n.plain i m).0 }
  where
    go : (b : ℕ) → name_byte_least ≤ b → dark b ≡ true
    go b l = rw (ne_eqb b 32 (λ e. omega arith), ne_eqb b 9 (λ e. omega arith), ne_eqb b 10 (λ e. omega arith), ne_eqb b 13 (λ e. omega arith))

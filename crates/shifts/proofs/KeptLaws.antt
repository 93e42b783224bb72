-- What a successful call keeps: shown of the costs that it leaves, used by the next call, and kept over both. Assumes nothing.
use Rattle.std.specs.Prelude.{Ok}
use Prim.Native.Nat.{ℕ, ◌≤◌, ◌<◌}
use mathlib.Core.Path.{◌≡◌, ap, ◌∙◌}
use mathlib.Core.List.{List}
use native.Mathlib.Omega.{arith}
use lib.ListN.{length, get_or}
use Rattle.costs.specs.declared.networks.Network.{Network}
use Rattle.costs.specs.Net.{Costs, costs_of, entries, price}
use Rattle.costs.specs.Networks.{outline_of, stands, with_constant}
use Rattle.judging.specs.Judging.{judged, IsNetwork}
use Rattle.judging.proofs.JudgeLaws.{network_fit, network_again}
use Rattle.shifts.specs.declared.nodes.Node.{Node}
use Rattle.shifts.specs.Nodes.{live_at, Fits}
use Rattle.shifts.specs.Kept.{CostsKept}
use Rattle.shifts.proofs.ShiftsKeepPrices.{constant_below}

-- of the costs that are left, as a constant and a function of the place
pub kept_by : (net : Network) (node : Node) (held lent : List ℕ) (constant : ℕ) (after : List ℕ) (left : Costs) → costs_of constant after ≡ left → IsNetwork net held → entries (stands net) ≤ length after
    → left.constant ≤ net.top → ((j : ℕ) → j < entries (stands net) → left.at j ≤ net.top)
    → ((p : ℕ → ℕ) → Fits (stands net) (live_at net node) p → price (stands net) left p ≡ price (stands net) (costs_of net.constant held) p)
    → ((j : ℕ) → entries (stands net) ≤ j → left.at j ≡ get_or lent j 0)
    → CostsKept net node held lent constant after
kept_by net node held lent constant after left e h whole low most prices past = record {
  prices = same;
  below = λ p fits. rw (← (same p fits)) (constant_below (stands net) (costs_of constant after) p low');
  network = network_again net held after constant h low' (λ j l. rw (at j) (most j l));
  whole = whole;
  past = λ j l. at j ∙ past j l;
}
  where
    at : (j : ℕ) → get_or after j 0 ≡ left.at j
    at j = ap (λ (c : Costs). c.at j) e

    low' : constant ≤ net.top
    low' = let x = ap (λ (c : Costs). c.constant) e in omega (arith, x, low)

    same : (p : ℕ → ℕ) → Fits (stands net) (live_at net node) p → price (stands net) (costs_of constant after) p ≡ price (stands net) (costs_of net.constant held) p
    same p fits = ap (λ (c : Costs). price (stands net) c p) e ∙ prices p fits

module _ (net : Network) (node : Node) (held lent : List ℕ) (constant : ℕ) (after : List ℕ) (kept : CostsKept net node held lent constant after) where
  -- a later call that is lent the numbers with the new constant beside the table is refused neither 8, nor 7 where no other table is too short
  pub kept_fit : (room : ℕ) → entries (stands net) ≤ room → Ok (outline_of (with_constant net constant)) ≡ judged (with_constant net constant) after room
  kept_fit room l = network_fit (with_constant net constant) after room kept.network l

  -- so calls of `shift` follow one another at a node, after a pass or not, and together keep what each keeps
  pub kept_then : (next : ℕ) (later : List ℕ) → CostsKept (with_constant net constant) node after after next later → CostsKept net node held lent next later
  kept_then next later more = record {
    prices = λ p fits. more.prices p fits ∙ kept.prices p fits;
    below = λ p fits. rw (← (kept.prices p fits)) (more.below p fits);
    network = more.network;
    whole = more.whole;
    past = λ j l. more.past j l ∙ kept.past j l;
  }

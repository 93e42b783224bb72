-- The public call `shift`: when it succeeds, and demand 2 for it. Its promise is `leaves r after ≡ shift_leaves net before node x`. Assumes nothing.
use Rattle.std.specs.Prelude.{Err, Ok}
use Prim.Native.Nat.{ℕ, ◌+◌, ◌≤◌}
use mathlib.Core.Path.{◌≡◌, refl, sym, ap, ◌∙◌}
use mathlib.Core.Bool.{Bool, true, false, cond}
use mathlib.Core.List.{List}
use native.Mathlib.Omega.{arith}
use lib.Dec.{T}
use lib.ListN.{length}
use Rattle.answers.specs.Answers.{Done, number_of}
use Rattle.answers.specs.declared.Refusal.TheVariants.{Illegal}
use Rattle.costs.specs.declared.networks.Network.{Network}
use Rattle.costs.specs.Net.{Net, Costs, Sound, costs_of, entries}
use Rattle.costs.specs.Networks.{Outline, stands}
use Rattle.costs.proofs.TestLaws.{is_true}
use Rattle.judging.specs.declared.Unfit.TheVariants.{NoNetwork, TooShort}
use Rattle.judging.specs.Judging.{judged, Judgement}
use Rattle.judging.proofs.JudgeLaws.{Passed, judged-passed, network_fit, network_sound}
use Rattle.shifts.specs.declared.nodes.Node.{Node}
use Rattle.shifts.specs.declared.moves.Move.{Move}
use Rattle.shifts.specs.declared.moves.Move.TheVariants.{Project, Extend, Raise}
use Rattle.shifts.specs.declared.outcomes.Outcome.{Outcome}
use Rattle.shifts.specs.Nodes.{live_at, IsNode, fixing}
use Rattle.shifts.specs.Moves.{shifted, Legal, is_legal}
use Rattle.shifts.specs.Doors.{CostsLeft, leaves, settled, node_legal, tried, shift_leaves}
use Rattle.shifts.specs.Kept.{MayShift, CostsKept}
use Rattle.shifts.proofs.NodeLaws.{by_node, hit-past}
use Rattle.shifts.proofs.LegalTests.{by_legal}
use Rattle.shifts.proofs.ShiftsKeepPrices.{shift_keeps_price, shifted_constant, shifted_most}
use Rattle.shifts.proofs.KeptLaws.{kept_by}

-- past E a legal shift moves nothing
shifted_past : (n : Net) → Sound n → (live : ℕ → ℕ → Bool) (x : Move) (c : Costs) → Legal n live c x → (j : ℕ) → entries n ≤ j → (shifted n live x c).at j ≡ c.at j
unfolding shifted Legal
shifted_past n good live (Project f i a m) c (amount, joined, given) j l =
    rw (hit-past n (fixing live i a) (n.vars + f) j joined.function l, hit-past n (fixing live i a) i j (omega (arith, joined.variable, good.enough)) l)
shifted_past n good live (Extend f i a m) c (amount, joined, given) j l =
    rw (hit-past n (fixing live i a) (n.vars + f) j joined.function l, hit-past n (fixing live i a) i j (omega (arith, joined.variable, good.enough)) l)
shifted_past n good live (Raise i m) c (amount, known, given) j l = rw (hit-past n live i j (omega (arith, known, good.enough)) l)

module _ (net : Network) (before : List ℕ) (node : Node) (x : Move) where
  abbrev n : Net
  n = stands net

  abbrev live : ℕ → ℕ → Bool
  live = live_at net node

  abbrev costs : Costs
  costs = costs_of net.constant before

  may-leaves : MayShift net before node x → shift_leaves net before node x ≡ record { answer = Done; costs = shifted n live x costs }
  unfolding shift_leaves tried
  may-leaves may = rw (
    ← (network_fit net before (length before) may.network may.whole),
    is_true (node_legal net node) ((by_node net node).finds may.node_is_legal),
    is_true (is_legal n live costs x) ((by_legal n live costs x).finds may.shift_legal),
  )

  leaves-may : (shift_leaves net before node x).answer ≡ Done → MayShift net before node x
  unfolding shift_leaves tried
  leaves-may e = go (judged net before (length before)) (node_legal net node) (is_legal n live costs x) (judged-passed net before (length before)) (by_node net node).says (by_legal n live costs x).says (ap number_of e)
    where
      go : (j : Judgement) (a b : Bool) → ((o : Outline) → Ok o ≡ j → Passed net before (length before) o) → (T a → IsNode n live) → (T b → Legal n live costs x)
          → number_of (settled j a (cond b (record { answer = Done; costs = shifted n live x costs }) (record { answer = Err Illegal; costs = costs_of 0 before })) (costs_of 0 before)).answer ≡ 0 → MayShift net before node x
      go (Ok o) true true f g h e = record { network = (f o refl).network; whole = (f o refl).roomy; node_is_legal = g tt; shift_legal = h tt }
      go (Ok o) true false f g h e = absurd (omega arith)
      go (Ok o) false b f g h e = absurd (omega arith)
      go (Err NoNetwork) a b f g h e = absurd (omega arith)
      go (Err TooShort) a b f g h e = absurd (omega arith)

  module _ (r : Outcome) (after : List ℕ) (promise : leaves r after ≡ shift_leaves net before node x) where
    answered : r.answer ≡ (shift_leaves net before node x).answer
    answered = ap (λ (l : CostsLeft). l.answer) promise

    -- the answer is Done exactly where nothing stands against the shift
    pub shift_done : MayShift net before node x → r.answer ≡ Done
    shift_done may = answered ∙ ap (λ (l : CostsLeft). l.answer) (may-leaves may)

    pub done_shift : r.answer ≡ Done → MayShift net before node x
    done_shift done = leaves-may (sym answered ∙ done)

    -- and then prices stay, the network is one again, and past E nothing moved. A lent table keeps its length: a caller has that beside the promise
    pub shift_keeps : length after ≡ length before → r.answer ≡ Done → CostsKept net node before before r.constant after
    shift_keeps long done =
        let may = done_shift done in
        let network = may.network in
        let good = network_sound net before network in
        kept_by net node before before r.constant after (shifted n live x costs) (ap (λ (l : CostsLeft). l.costs) (promise ∙ may-leaves may)) network (omega (arith, long, may.whole))
        (shifted_constant n live x costs network.ready.constant_most)
        (λ j l. shifted_most n live x costs j (network.costs j l (omega (arith, may.whole))))
        (λ p fits. shift_keeps_price n good live p fits costs x may.shift_legal)
        (shifted_past n good live x costs may.shift_legal)

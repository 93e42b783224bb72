-- The public call `pass`: when it succeeds, and demand 2 for it. Its promise is `leaves r after ≡ pass_leaves net held work node`. Assumes nothing.
use Rattle.std.proofs.Common.{Ok, Err, ℕ, ◌<◌, min, ◌≡◌, refl, sym, ap, ◌∙◌, Bool, true, false, List, arith, T, length, lt-ltb, le-ltb}
use Rattle.answers.specs.Answers.{Done, number_of}
use Rattle.costs.specs.declared.networks.Network.{Network}
use Rattle.costs.specs.Net.{Net, Costs, costs_of, entries}
use Rattle.costs.specs.Networks.{Outline, stands}
use Rattle.costs.proofs.TestLaws.{is_true}
use Rattle.costs.proofs.NetLaws.{price_below}
use Rattle.judging.specs.declared.Unfit.TheVariants.{NoNetwork, TooShort}
use Rattle.judging.specs.Judging.{judged, Lent, Judgement}
use Rattle.judging.proofs.JudgeLaws.{lent_fit, fit_lent, network_sound}
use Rattle.shifts.specs.declared.nodes.Node.{Node}
use Rattle.shifts.specs.declared.outcomes.Outcome.{Outcome}
use Rattle.shifts.specs.Nodes.{live_at, IsNode}
use Rattle.shifts.specs.Doors.{CostsLeft, leaves, settled, node_legal}
use Rattle.shifts.specs.Kept.{CostsKept}
use Rattle.shifts.proofs.NodeLaws.{by_node}
use Rattle.shifts.proofs.KeptLaws.{kept_by}
use Rattle.passes.specs.Doors.{passed, worked_below, zeros, pass_leaves, MayPass}
use Rattle.passes.proofs.PassIsLegal.{pass_constant, pass_most, pass_keeps_prices}

module _ (net : Network) (held work : List ℕ) (node : Node) where
  abbrev n : Net
  n = stands net

  abbrev live : ℕ → ℕ → Bool
  live = live_at net node

  abbrev costs : Costs
  costs = costs_of net.constant held

  abbrev left : Costs
  left = worked_below (entries n) (passed net held node) work

  may-leaves : MayPass net held work node → pass_leaves net held work node ≡ record { answer = Done; costs = left }
  unfolding pass_leaves
  may-leaves may = rw (← (lent_fit net held (length work) may.lent), is_true (node_legal net node) ((by_node net node).finds may.node_is_legal))

  leaves-may : (pass_leaves net held work node).answer ≡ Done → MayPass net held work node
  unfolding pass_leaves
  leaves-may e = go (judged net held (min (length held) (length work))) (node_legal net node) (fit_lent net held (length work)) (by_node net node).says (ap number_of e)
    where
      go : (j : Judgement) (b : Bool) → ((o : Outline) → Ok o ≡ j → Lent net held (length work)) → (T b → IsNode n live)
          → number_of (settled j b (record { answer = Done; costs = left }) zeros).answer ≡ 0 → MayPass net held work node
      go (Ok o) true f g e = record { lent = f o refl; node_is_legal = g tt }
      go (Ok o) false f g e = absurd (omega arith)
      go (Err NoNetwork) b f g e = absurd (omega arith)
      go (Err TooShort) b f g e = absurd (omega arith)

  -- below E the worked costs are left
  left_at : (j : ℕ) → j < entries n → left.at j ≡ (passed net held node).at j
  left_at j l = rw (lt-ltb j (entries n) l)

  module _ (r : Outcome) (after : List ℕ) (promise : leaves r after ≡ pass_leaves net held work node) where
    answered : r.answer ≡ (pass_leaves net held work node).answer
    answered = ap (λ (l : CostsLeft). l.answer) promise

    -- the answer is Done exactly where nothing stands against the pass
    pub pass_done : MayPass net held work node → r.answer ≡ Done
    pass_done may = answered ∙ ap (λ (l : CostsLeft). l.answer) (may-leaves may)

    pub done_pass : r.answer ≡ Done → MayPass net held work node
    done_pass done = leaves-may (sym answered ∙ done)

    -- and then the worked costs price as the held ones do, they are a network again, and past E the working table is as it was. A lent table keeps its length: a caller has that beside the promise
    pub pass_keeps : length after ≡ length work → r.answer ≡ Done → CostsKept net node held work r.constant after
    pass_keeps long done =
        let may = done_pass done in
        let network = may.lent.network in
        let good = network_sound net held network in
        kept_by net node held work r.constant after left (ap (λ (l : CostsLeft). l.costs) (promise ∙ may-leaves may)) network (omega (arith, long, may.lent.room_enough))
        (pass_constant n good live costs network.ready.constant_most)
        (λ j l. rw (left_at j l) (pass_most n good live costs j (network.costs j l (omega (arith, may.lent.held_whole)))))
        (λ p fits. price_below n good left (passed net held node) refl left_at p fits.plan ∙ pass_keeps_prices n good live costs p fits)
        (λ j l. rw (le-ltb j (entries n) l))

-- The public call, as its code goes. Assumes nothing.
use Rattle.std.proofs.Common.{ℕ, ◌≤◌, ◌≡◌, min, true, false, List, ◌++◌, length, take, drop, Result, Ok, Err, ◌∙◌, arith}
use Rattle.std.specs.Result.{IsErrAnd, IfErr}
use Rattle.answers.specs.declared.Refusal.{Refusal}
use Rattle.answers.specs.declared.Refusal.TheVariants.{Illegal}
use Rattle.costs.specs.declared.networks.Network.{Network}
use Rattle.costs.specs.Net.{entries, costs_of}
use Rattle.costs.specs.Networks.{outline_of, stands}
use Rattle.costs.proofs.RowLaws.{scoped_sound}
use Rattle.judging.specs.declared.Unfit.{Unfit}
use Rattle.judging.specs.declared.judged.Judged.{Judged}
use Rattle.judging.specs.Judging.{judged, refusal_of}
use Rattle.judging.specs.Outlined.{outline_in}
use Rattle.judging.proofs.JudgeLaws.{judged-passed}
use Rattle.shifts.specs.declared.nodes.Node.{Node}
use Rattle.shifts.specs.declared.sites.Site.{Site}
use Rattle.shifts.specs.Nodes.{node_good}
use Rattle.shifts.specs.Doors.{leaves}
use Rattle.shifts.specs.Ties.Outcomes.{told}
use Rattle.shifts.specs.Ties.Sites.{net_at, lives}
use Rattle.passes.specs.Passing.{pass}
use Rattle.passes.specs.Doors.{worked_below, zeros, pass_leaves}
use Rattle.passes.proofs.TableLaws.{site_copied}
use Rattle.passes.proofs.PassStaysBelow.{pass_stays_below}

module _ (net : Network) (held work : List ℕ) (node : Node) (room : ℕ) (both : room ≡ min (length held) (length work)) where
  abbrev Refused : Result ℕ Refusal → Type 0
  Refused r = IfErr r (λ refusal. record { answer = Err refusal; costs = zeros } ≡ pass_leaves net held work node)

  -- refused by the judge
  pub judge_refused : (why : Unfit) (r : Result ℕ Refusal) → IsErrAnd r (λ refusal. Err refusal ≡ refusal_of why) → Err why ≡ judged net held room → Refused r
  unfolding pass_leaves
  judge_refused why (Err refusal) is e = rw (← both, ← e, is)
  judge_refused why (Ok constant) is e = absurd is

  -- or passed in the network that it lets pass
  module _ (passed : Judged) (same : passed.network.now ≡ net) (fits : Ok (outline_in passed) ≡ judged net held room) where
    pub node_refused : (why : Refusal) (r : Result ℕ Refusal) → IsErrAnd r (λ refusal. refusal ≡ why) → why ≡ Illegal → node_good passed.network.now.vars passed.network.now.sizes node.fixed ≡ false → Refused r
    unfolding pass_leaves
    node_refused why (Err refusal) is e bad = rw (← both, ← fits, is ∙ e, rw same at bad)
    node_refused why (Ok constant) is e bad = absurd is

    -- both tables have room
    pub entries_roomy : (passed.entries ≤ length work) × (passed.entries ≤ length held)
    entries_roomy =
        let roomy = (judged-passed net held room (outline_in passed) fits).roomy in
        let whole : passed.entries ≡ entries (stands net) = rw same at passed.whole in
        (omega (arith, both, roomy, whole), omega (arith, both, roomy, whole))

    module _ (site : Site) (here : site.judged.now ≡ passed) where
      pub site_roomy : entries (net_at site) ≤ length work
      site_roomy = let roomy = (judged-passed net held room (outline_in passed) fits).roomy in rw (here, same) (omega (arith, both, roomy))

      -- what the pass over the copied costs leaves
      pub passed_there : site.node.now ≡ node.fixed → node_good passed.network.now.vars passed.network.now.sizes node.fixed ≡ true → (u v : List ℕ) (r : ℕ)
          → u ≡ take passed.entries held ++ drop passed.entries work → costs_of r v ≡ (pass (net_at site) (lives site) (costs_of site.judged.now.network.now.constant u)).costs
          → leaves (told (Ok r)) v ≡ pass_leaves net held work node
      unfolding pass_leaves
      passed_there there good u v r copied done =
          let m = site.judged.now.network.now in
          let start = site_copied site m.constant held work u (rw (here, same) (omega (arith, both, (judged-passed net held room (outline_in passed) fits).roomy))) (rw here copied) in
          let all : costs_of r v ≡ worked_below (entries (net_at site)) (pass (net_at site) (lives site) (costs_of m.constant held)).costs work =
          done ∙ rw start (pass_stays_below (net_at site) (lives site) work (scoped_sound (outline_of m) m.sizes m.scopes site.judged.now.ready.scoped) (costs_of m.constant held)) in
          rw (← both, ← fits, rw same at good, rw (here, same, there) at all)

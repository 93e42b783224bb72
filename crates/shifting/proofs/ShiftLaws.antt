-- The public call, as its code goes. Assumes nothing.
use Rattle.std.proofs.Common.{ℕ, ◌≤◌, ◌≡◌, true, false, List, length, Result, Ok, Err, sym, ◌∙◌}
use Rattle.std.specs.Result.{IsErrAnd}
use Rattle.answers.specs.declared.Refusal.{Refusal}
use Rattle.answers.specs.declared.Refusal.TheVariants.{Illegal}
use Rattle.costs.specs.Net.{entries}
use Rattle.costs.specs.declared.networks.Network.{Network}
use Rattle.judging.specs.declared.Unfit.{Unfit}
use Rattle.judging.specs.declared.judged.Judged.{Judged}
use Rattle.judging.specs.Judging.{judged, refusal_of}
use Rattle.judging.specs.Outlined.{outline_in}
use Rattle.judging.proofs.JudgeLaws.{judged-passed}
use Rattle.shifts.specs.declared.nodes.Node.{Node}
use Rattle.shifts.specs.declared.moves.Move.{Move}
use Rattle.shifts.specs.declared.outcomes.Outcome.{Outcome}
use Rattle.shifts.specs.declared.sites.Site.{Site}
use Rattle.shifts.specs.Nodes.{node_good}
use Rattle.shifts.specs.Doors.{leaves, tried, shift_leaves}
use Rattle.shifts.specs.Ties.Outcomes.{told}
use Rattle.shifts.specs.Ties.Sites.{net_at, lives}
use Rattle.shifts.proofs.DoorLaws.{shift_refused}

-- refused by the judge
pub judge_refused : (net : Network) (t : List ℕ) (node : Node) (x : Move) (why : Unfit) (r : Result ℕ Refusal) → IsErrAnd r (λ refusal. Err refusal ≡ refusal_of why) → Err why ≡ judged net t (length t)
    → leaves (told r) t ≡ shift_leaves net t node x
judge_refused net t node x why (Err refusal) h e = rw h (shift_refused net t node x why (sym e))
judge_refused net t node x why (Ok constant) h e = absurd h

-- or tried in the network that it lets pass
module _ (net : Network) (t : List ℕ) (node : Node) (x : Move) (passed : Judged) (same : passed.network.now ≡ net) (fits : Ok (outline_in passed) ≡ judged net t (length t)) where
  pub node_refused : (r : Result ℕ Refusal) (why : Refusal) → IsErrAnd r (λ refusal. refusal ≡ why) → why ≡ Illegal → node_good passed.network.now.vars passed.network.now.sizes node.fixed ≡ false
      → leaves (told r) t ≡ shift_leaves net t node x
  unfolding shift_leaves
  node_refused (Err refusal) why h e bad = rw (h ∙ e, ← fits, rw same at bad)
  node_refused (Ok constant) why h e bad = absurd h

  module _ (site : Site) (here : site.judged.now ≡ passed) where
    pub site_roomy : entries (net_at site) ≤ length t
    site_roomy = rw (here, same) (judged-passed net t (length t) (outline_in passed) fits).roomy

    pub tried_there : site.node.now ≡ node.fixed → node_good passed.network.now.vars passed.network.now.sizes node.fixed ≡ true → (r : Outcome) (u : List ℕ)
        → leaves r u ≡ tried (net_at site) (lives site) x net.constant t → leaves r u ≡ shift_leaves net t node x
    unfolding shift_leaves
    tried_there there good r u h = h ∙ rw (← fits, rw same at good, here, same, there)

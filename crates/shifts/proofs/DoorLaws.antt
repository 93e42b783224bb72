-- The public calls, as their code goes. Assumes nothing.
use Rattle.std.specs.Prelude.{Err, Ok}
use Prim.Native.Nat.{ℕ, ◌≤◌, ◌<◌}
use mathlib.Core.Path.{◌≡◌, sym, ◌∙◌}
use mathlib.Core.Bool.{true, false}
use mathlib.Core.List.{List}
use lib.ListN.{length, get_or}
use Rattle.answers.specs.declared.Refusal.TheVariants.{Illegal}
use Rattle.costs.specs.declared.networks.Network.{Network}
use Rattle.costs.specs.Range.{sum_to}
use Rattle.costs.specs.Net.{entries}
use Rattle.costs.specs.Networks.{Outline, net_of, Ready}
use Rattle.costs.proofs.TestLaws.{so}
use Rattle.judging.specs.Judging.{judged, refusal_of}
use Rattle.judging.specs.declared.Unfit.{Unfit}
use Rattle.judging.proofs.JudgeLaws.{judged-passed, start_first}
use Rattle.shifts.specs.declared.nodes.Node.{Node}
use Rattle.shifts.specs.declared.moves.Move.{Move}
use Rattle.shifts.specs.Nodes.{node_good, live_in}
use Rattle.shifts.specs.Ties.Parts.{Laid, tried_at}
use Rattle.shifts.specs.Doors.{leaves, shift_leaves, tried}
use Rattle.shifts.proofs.NodeLaws.{by_bytes}

-- what the judge has established, of the outline that it hands back
pub fit : (net : Network) (t : List ℕ) (room : ℕ) (o : Outline) → judged net t room ≡ Ok o
    → Ready o net.sizes net.scopes net.starts × (entries (net_of o net.sizes net.scopes) ≤ room)
fit net t room o e = let p = judged-passed net t room o (sym e) in rw p.outline (p.network.ready, p.roomy)

-- and with it the test of the node
pub laid_by : (o : Outline) (sizes rows starts fx firsts : List ℕ) (room : ℕ) → Ready o sizes rows starts → entries (net_of o sizes rows) ≤ room → node_good o.vars sizes fx ≡ true
    → ((v : ℕ) → v < o.vars → get_or firsts v 0 ≡ sum_to v (λ w. get_or sizes w 0)) → Laid o sizes rows starts firsts fx room
laid_by o sizes rows starts fx firsts room ready roomy good first = record {
  ready = ready;
  first = λ v m. first v m ∙ sym (start_first o sizes rows ready.scoped v m);
  node = (by_bytes o.vars sizes fx).says (so good);
  roomy = roomy;
}

-- at an illegal node, and at a legal one
pub tried_nowhere : (o : Outline) (sizes rows fx : List ℕ) (x : Move) (t : List ℕ) → node_good o.vars sizes fx ≡ false
    → leaves (record { answer = Err Illegal; constant = 0 }) t ≡ tried_at o sizes rows fx x t
unfolding tried_at
tried_nowhere o sizes rows fx x t e = rw e

pub tried_here : (o : Outline) (sizes rows fx : List ℕ) (x : Move) (t : List ℕ) → node_good o.vars sizes fx ≡ true
    → tried (net_of o sizes rows) (live_in sizes fx) x o.constant t ≡ tried_at o sizes rows fx x t
unfolding tried_at
tried_here o sizes rows fx x t e = rw e

-- `shift`: refused by the judge, or tried in the network that it lets pass
pub shift_refused : (net : Network) (t : List ℕ) (node : Node) (x : Move) (why : Unfit) → judged net t (length t) ≡ Err why
    → leaves (record { answer = refusal_of why; constant = 0 }) t ≡ shift_leaves net t node x
unfolding shift_leaves
shift_refused net t node x why e = rw e

pub shift_fit : (net : Network) (t : List ℕ) (node : Node) (x : Move) (o : Outline) → judged net t (length t) ≡ Ok o
    → tried_at o net.sizes net.scopes node.fixed x t ≡ shift_leaves net t node x
unfolding shift_leaves tried_at
shift_fit net t node x o e = let same = (judged-passed net t (length t) o (sym e)).outline in rw (e, same)

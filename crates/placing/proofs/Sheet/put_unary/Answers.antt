use Rattle.std.proofs.Common.{arith, ap, List, ℕ, ◌+◌, ◌-◌, ◌≤◌, ◌++◌, get_or, take, drop}
use Rattle.placing.specs.Drafts.{Draft, unary_start}
use Rattle.placing.proofs.PlacingLaws.{unary_below}
use Rattle.placing.proofs.StretchLaws.{stretch_added}
use Rattle.placing.proofs.Sheet.put_unary.Goals as goal

pub returns : goal.returns
returns c = let a = c.args in
    let net = a.self.now.network in
    let w = a.self.now.table in
    let all = a.self.now.entries in
    let s = c.unary_start-start.result in
    let m = c.size.result in
    let on-table : List ℕ → Draft = λ t. record { net = net; table = t } in
    let h : s + m ≤ all = omega (arith, unary_below a.self.now a.x c.requires.0) in
    ap on-table
    (stretch_added net.top s m (unary_start net.sizes a.x) (get_or net.sizes a.x 0) (all - s - m) (s + m - s) all w a.cells.now _ c.unary_start-start.ensures.0 c.size.ensures (omega arith) (omega arith) (omega (arith, a.self.now.few, a.self.now.long))
    (ap (λ (l : List ℕ). take s w ++ (l ++ drop (s + m - s) (drop s w))) c.add_costs.ensures))

use Rattle.std.proofs.Common.{arith, ◌≡◌, length, take, length-take-le, take-add}
use Rattle.placing.proofs.Sheet.put_function.Goals as goal

pub returns-clause-placed : goal.returns-clause-placed
returns-clause-placed c = let s = c.args.self.now in
    let e : length (take s.entries s.table) ≡ s.entries = length-take-le _ _ (omega (arith, s.few, s.long)) in
    rw (e, c.put_row.ensures, take-add s.entries c.args.many s.table)

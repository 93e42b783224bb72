use Rattle.std.proofs.Common.{take_all, le_refl}
use Rattle.scopes.proofs.ScopeLaws.{small_scope}
use Rattle.functions.proofs.read_numbered.Goals as goal

pub invariant_of-ds : goal.invariant_of-ds
invariant_of-ds c =
    let ranged = c.args.draft.now.ranged in
    record { small = rw (c.fill_sizes.ensures, take_all _ _ (le_refl _)) (small_scope _ _ _ ranged.sized ranged.small c.requires.told.known c.requires.told.few) }

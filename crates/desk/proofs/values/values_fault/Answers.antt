use Rattle.records.specs.Records.{told}
use Rattle.records.specs.Words.{word_at}
use Rattle.costs.proofs.RangeLaws.{first_to_is, first_to_none}
use Rattle.std.proofs.lemmas.Bool.{lt-leb}
use Rattle.std.proofs.Common.{arith, lt-ltb, le-leb, le-ltb, get_or, ltb, ◌≡◌, Bool, true, not, ℕ}
use Rattle.desk.proofs.values.values_fault.Goals as goal

pub returns-then-size-word_at : goal.returns-then-size-word_at
returns-then-size-word_at c = let s = c.args in
    let misses : ℕ → Bool = λ w. not (ltb (told (word_at s.bytes.now) w) (get_or s.net.now.sizes w 0)) in
    let here : misses c.loop-v.v ≡ true = rw (← c.word_at.ensures, ← c.size.ensures, le-ltb _ _ c.if-size-word_at.true) in
    let bad = first_to_is s.net.now.vars c.loop-v.v misses (omega arith) (λ w l. rw (lt-ltb _ _ (c.loop-v.invariant w l))) here in
    rw (bad, lt-leb s.net.now.vars c.loop-v.v (omega arith))

pub returns : goal.returns
returns c = let s = c.args in
    let misses : ℕ → Bool = λ w. not (ltb (told (word_at s.bytes.now) w) (get_or s.net.now.sizes w 0)) in
    let none = first_to_none s.net.now.vars misses (λ w l. rw (lt-ltb _ _ (c.loop-v.invariant w (omega arith)))) in
    rw (none, le-leb s.net.now.vars s.net.now.vars (omega arith))

use Rattle.spelling.specs.Ties.Standing.{levels, pending, Stacked}
use Rattle.costs.specs.Limits.{vars_most}
use Rattle.std.proofs.Common.{ℕ, ◌≡◌, ◌≤◌, length, get_or}
use Rattle.spelling.proofs.trees.Place.turned_back.Given as goal

abbrev pub invariant-loop-level : goal.invariant-loop-level
invariant-loop-level l =
    let size = λ (v : ℕ). get_or l.net.sizes v 0 in
    record {
      few : l.level ≤ vars_most;
      whole : length l.fixed ≡ vars_most;
      stacked : Stacked l.net.vars size (levels l.self.order l.level) (λ v. get_or l.fixed v 0);
      same : pending size (levels l.self.order l.level) (λ v. get_or l.fixed v 0) ≡ pending size (levels l.self.order l.self.depth) (λ v. get_or l.self.fixed v 0);
    }

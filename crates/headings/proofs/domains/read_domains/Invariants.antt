use Rattle.std.proofs.Common.{◌≡◌, ◌-◌, ◌*◌, ◌≤◌}
use Rattle.costs.specs.Limits.{size_most}
use Rattle.tokens.specs.Tokens.{text_of}
use Rattle.headings.specs.Domains.{domains}
use Rattle.headings.proofs.domains.read_domains.Given as goal

abbrev pub invariant-loop-v : goal.invariant-loop-v
invariant-loop-v l = record {
  few : l.entries ≤ l.v * size_most;
  so_far : domains l.greatest l.vars 0 0 0 l.initial.sizes (text_of l.text) l.at
      ≡ domains l.greatest (l.vars - l.v) l.v l.largest l.entries l.sizes (text_of l.text) l.next;
}

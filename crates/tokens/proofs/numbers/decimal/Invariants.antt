use Rattle.std.proofs.Common.{◌≡◌, ◌<◌, ◌^◌, drop}
use Rattle.tokens.specs.Numbers.{digits, value_of}
use Rattle.tokens.proofs.numbers.decimal.Given as goal

abbrev pub invariant-loop-b : goal.invariant-loop-b
invariant-loop-b l = record {
  fits : l.v < 10 ^ l.b-index;
  so_far : value_of l.w ≡ digits l.v (drop l.b-index l.w);
}

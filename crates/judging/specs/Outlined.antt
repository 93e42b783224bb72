-- What of a judged network the judge's answer speaks of.
use Rattle.costs.specs.Networks.{Outline}
use Rattle.std.specs.Prelude.{Result, Ok, Err}
use Rattle.judging.specs.declared.Unfit.{Unfit}
use Rattle.judging.specs.declared.judged.Judged.{Judged}

-- its numbers that always travel together, E the one that the code has
abbrev pub outline_in : Judged → Outline
outline_in passed = record {
  top = passed.network.now.top;
  constant = passed.network.now.constant;
  vars = passed.network.now.vars;
  functions = passed.network.now.functions;
  entries = passed.entries;
}

abbrev pub outlined : Result Judged Unfit → Result Outline Unfit
outlined (Ok passed) = Ok (outline_in passed)
outlined (Err why) = Err why

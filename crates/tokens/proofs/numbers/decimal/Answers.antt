use Rattle.std.proofs.Common.{lit<, arith, rules, tests, sym, ◌∙◌}
use Rattle.tokens.proofs.DigitLaws.{fair, digits_stop, digits_more, digits_end, ten_more, ten_room}
use Rattle.tokens.proofs.numbers.decimal.Goals as goal

pub loop-b-init : goal.loop-b-init
loop-b-init c = record { fits = lit< tt; so_far = fair _ (search (tests, rules)) (search (tests, rules)) }

pub returns-then-not-is_ascii_digit : goal.returns-then-not-is_ascii_digit
returns-then-not-is_ascii_digit c =
    sym (c.loop-b.invariant.so_far ∙ digits_stop _ _ _ c.loop-b-test.true (sym c.is_ascii_digit.ensures.value ∙ c.if-not-is_ascii_digit.true))

-- the value has room for one digit more
pub overflow_mul-v : goal.overflow_mul-v
overflow_mul-v c = omega (arith, ten_room c.loop-b.v c.loop-b.b-index (search (tests, rules)) c.loop-b.invariant.fits)

pub overflow_add-v : goal.overflow_add-v
overflow_add-v c = omega (arith, ten_room c.loop-b.v c.loop-b.b-index (search (tests, rules)) c.loop-b.invariant.fits)

pub loop-b-preserved : goal.loop-b-preserved
loop-b-preserved c = record {
  fits = ten_more c.loop-b.v _ c.loop-b.b-index (search (tests, rules)) c.loop-b.invariant.fits;
  so_far = rw c.from.ensures
      (c.loop-b.invariant.so_far ∙ digits_more _ _ _ c.loop-b-test.true (sym c.is_ascii_digit.ensures.value ∙ c.if-not-is_ascii_digit.false));
}

pub returns : goal.returns
returns c = sym (c.loop-b.invariant.so_far ∙ digits_end _ _ _ c.loop-b-test.false)

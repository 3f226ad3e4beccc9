use Rattle.std.proofs.Common.{get_or, arith}
use Rattle.std.specs.Int.{IsInRange}
use borrow.Author.Count.{below_more}
use Rattle.gd_script.proofs.Numbers.{front_value, next_value, no_number, number_read}
use Rattle.gd_script.proofs.fields.read_digits.Goals as goal

pub returns-then-not-is_ascii_digit : goal.returns-then-not-is_ascii_digit
returns-then-not-is_ascii_digit c =
    no_number c.args.digits.now c.loop-digit.digit-index c.loop-digit-test.true (λ r. let h = c.if-not-is_ascii_digit.ensures.cases in grind (arith, h))

pub overflow_mul-value : goal.overflow_mul-value
overflow_mul-value c =
    let small = front_value c.args.digits.now c.loop-digit.digit-index 19 c.loop-digit.invariant.digits (omega arith) (omega arith) in
    omega (arith, small, c.loop-digit.invariant.value)

pub overflow_add-value : goal.overflow_add-value
overflow_add-value c =
    let small = front_value c.args.digits.now c.loop-digit.digit-index 19 c.loop-digit.invariant.digits (omega arith) (omega arith) in
    omega (arith, small, c.loop-digit.invariant.value, c.if-not-is_ascii_digit.ensures.cases.1, c.from.ensures)

pub loop-digit-preserved : goal.loop-digit-preserved
loop-digit-preserved c =
    let digit = c.if-not-is_ascii_digit.ensures.cases in
    let next = next_value c.args.digits.now c.loop-digit.digit-index c.loop-digit-test.true digit in
    record {
      digits = below_more (λ k. IsInRange 48 57 (get_or c.args.digits.now k 0)) c.loop-digit.digit-index c.loop-digit.invariant.digits digit;
      value = omega (arith, next, c.loop-digit.invariant.value, c.from.ensures);
    }

pub returns : goal.returns
returns c = number_read c.args.digits.now c.loop-digit.digit-index c.loop-digit.value c.loop-digit-test.false c.loop-digit.auto.digit-index-end c.loop-digit.invariant.digits c.loop-digit.invariant.value

use Rattle.std.proofs.Common.{arith, ◌+◌, sym}
use Rattle.mk_text.proofs.DigitLemmas.{value_small, value_more}
use Rattle.mk_text.proofs.fields.number_of.Goals as goal

pub overflow_mul-number : goal.overflow_mul-number
overflow_mul-number c =
    let ds = c.args.digits.now in
    let all = c.if-not-are_digits.ensures in
    omega (arith, value_more ds c.loop-digit.digit-index c.loop-digit.number (sym all) (omega arith) c.loop-digit.invariant, value_small ds (c.loop-digit.digit-index + 1) (sym all) (omega arith))

pub overflow_add-number : goal.overflow_add-number
overflow_add-number c =
    let ds = c.args.digits.now in
    let all = c.if-not-are_digits.ensures in
    omega (
      arith,
      value_more ds c.loop-digit.digit-index c.loop-digit.number (sym all) (omega arith)
          c.loop-digit.invariant,
      value_small ds (c.loop-digit.digit-index + 1) (sym all) (omega arith),
      c.from.ensures,
    )

pub loop-digit-preserved : goal.loop-digit-preserved
loop-digit-preserved c =
    let ds = c.args.digits.now in
    let all = c.if-not-are_digits.ensures in
    omega (arith, value_more ds c.loop-digit.digit-index c.loop-digit.number (sym all) (omega arith) c.loop-digit.invariant, c.from.ensures)

pub returns-clause-small : goal.returns-clause-small
returns-clause-small c =
    let ds = c.args.digits.now in
    let all = c.if-not-are_digits.ensures in
    omega (arith, c.loop-digit.invariant, value_small ds c.loop-digit.digit-index (sym all) (omega arith))

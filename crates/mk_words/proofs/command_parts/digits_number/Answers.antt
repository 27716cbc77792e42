use Rattle.std.proofs.Common.{length, sym, arith, rules}
use Rattle.std.specs.Str.Parse.{digits_value}
use Rattle.mk_words.proofs.CommandPartsLemmas.{abs_is, digits_field, digits_field_none, some_number}
use Rattle.mk_kept.proofs.ForCallers.{some_bytes}
use mir.Syntax.{w32}
use mir.Val.{SFits}
use Rattle.mk_words.proofs.command_parts.digits_number.Goals as goal

pub returns-in_err-number : goal.returns-in_err-number
returns-in_err-number c =
    absurd (digits_field_none c.args.word.now c.field.result (some_bytes (length c.args.word.now) c.if-is_empty.ensures)
    (omega arith) (sym c.if-not-are_digits.ensures) c.field.ensures.value c.in_err-number.was)

pub returns : goal.returns
returns c =
    let some = some_bytes (length c.args.word.now) c.if-is_empty.ensures in
    let all = sym c.if-not-are_digits.ensures in
    let fits : SFits w32 c.in_ok-number.number = search rules in
    some_number c.args.word.now c.unsigned_abs.result some (omega arith) all
    (abs_is c.unsigned_abs.result (digits_value 10 c.args.word.now) c.in_ok-number.number c.unsigned_abs.ensures.value fits
    (digits_field c.args.word.now c.field.result c.in_ok-number.number some (omega arith) all c.field.ensures.value c.in_ok-number.was))

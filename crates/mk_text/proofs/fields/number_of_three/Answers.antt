use Rattle.std.proofs.Common.{◌≡◌, arith}
use Rattle.mk_text.proofs.FieldLemmas.{small_one, small_two}
use Rattle.mk_text.proofs.fields.number_of_three.Goals as goal

pub returns-then-second-eq32 : goal.returns-then-second-eq32
returns-then-second-eq32 c =
    let blank : c.args.first ≡ 32 = c.if-first-ne32.false in
    let next : c.args.second ≡ 32 = c.if-second-eq32.true in
    let ones = c.in_ok-ones.ensures in
    (rw (blank, next) (small_one c.args.last c.in_ok-ones.ones ones.0 ones.1), omega (arith, ones.2))

pub returns : goal.returns
returns c =
    let blank : c.args.first ≡ 32 = c.if-first-ne32.false in
    let ones = c.in_ok-ones.ensures in
    let tens = c.in_ok-digit.ensures in
    (rw blank (small_two c.args.second c.args.last c.in_ok-digit.field-0 c.in_ok-ones.ones tens.0 ones.0 tens.1 ones.1), omega (arith, tens.2, ones.2))

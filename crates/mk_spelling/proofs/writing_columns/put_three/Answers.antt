use Rattle.std.proofs.Common.{◌∷◌, decimal, arith}
use Rattle.std.proofs.lemmas.Int.{ints}
use Rattle.mk_text.specs.Spelling.{at_right, right_in}
use Rattle.mk_spelling.specs.TableSpelling.{three}
use Rattle.mk_spelling.proofs.AppendLemmas.{as_last}
use Rattle.mk_spelling.proofs.ThreeLemmas.{three_below, three_from}
use Rattle.mk_spelling.proofs.writing_columns.put_three.Goals as goal

pub returns-then-number-lt0 : goal.returns-then-number-lt0
returns-then-number-lt0 c =
    as_last c.put_minus.result c.args.out.now.items c.put_minus.new.out.items (at_right 3 (45 ∷ decimal c.digits_below_zero.result)) (three c.args.number)
    (three_below c.args.number c.digits_below_zero.result (omega (arith, ints)) (omega (arith, ints))) c.put_minus.ensures

pub returns : goal.returns
returns c =
    as_last c.put_right.result c.args.out.now.items c.put_right.new.out.items (right_in 3 c.digits_from_zero.result) (three c.args.number)
    (three_from c.args.number c.digits_from_zero.result (omega (arith, ints))) c.put_right.ensures

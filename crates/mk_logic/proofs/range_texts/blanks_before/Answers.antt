use Rattle.std.proofs.Common.{◌≡◌, arith, eqb, false, get_or}
use Rattle.std.proofs.lemmas.Bool.Decides.{nat_tests}
use Rattle.mk_logic.proofs.RangeTextsLemmas.{blanks_found}
use Rattle.mk_logic.proofs.range_texts.blanks_before.Goals as goal

pub returns-then-byte-ne32-clause-blanks : goal.returns-then-byte-ne32-clause-blanks
returns-then-byte-ne32-clause-blanks c =
    let here : eqb (get_or c.args.text.now c.loop-i.i 0) 32 ≡ false = grind (arith, nat_tests) in
    blanks_found c.args.text.now c.loop-i.i (omega arith) c.loop-i.invariant (λ _. here)

pub returns-clause-blanks : goal.returns-clause-blanks
returns-clause-blanks c = blanks_found c.args.text.now _ (omega arith) (λ k below. c.loop-i.invariant k (omega arith)) (λ below. absurd (omega arith))

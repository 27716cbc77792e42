use Rattle.std.proofs.Common.{◌≡◌, arith, eqb, true, get_or}
use Rattle.std.proofs.lemmas.Bool.Decides.{nat_tests}
use Rattle.mk_logic.proofs.RangeTextsLemmas.{place_found}
use Rattle.mk_logic.proofs.range_texts.place_of.Goals as goal

pub returns-then-b-byte-clause-place : goal.returns-then-b-byte-clause-place
returns-then-b-byte-clause-place c =
    let here : eqb (get_or c.args.text.now c.loop-i.i 0) c.args.byte ≡ true = grind (arith, nat_tests) in
    place_found c.args.byte c.args.text.now c.loop-i.i (omega arith) c.loop-i.invariant (λ _. here)

pub returns-clause-place : goal.returns-clause-place
returns-clause-place c = place_found c.args.byte c.args.text.now _ (omega arith) (λ k below. c.loop-i.invariant k (omega arith)) (λ below. absurd (omega arith))

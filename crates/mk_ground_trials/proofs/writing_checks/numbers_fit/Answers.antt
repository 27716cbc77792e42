use Rattle.std.proofs.Common.{refl}
use Rattle.std.proofs.lemmas.List.Elements.{All-more}
use Rattle.mk_spelling.specs.TableSpelling.{FitsThree}
use Rattle.mk_spelling.proofs.GraphicLemmas.{all_taken}
use Rattle.mk_ground_trials.proofs.writing_checks.numbers_fit.Goals as goal

pub loop-number-preserved : goal.loop-number-preserved
loop-number-preserved c = All-more FitsThree c.args.numbers.now c.loop-number.number-index _ c.loop-number-test.true c.loop-number.invariant (c.if-not-number_fits.ensures refl)

pub returns : goal.returns
returns c = λ is. all_taken FitsThree c.args.numbers.now c.loop-number.number-index c.loop-number-test.false c.loop-number.invariant

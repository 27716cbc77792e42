use Rattle.std.proofs.Common.{refl}
use Rattle.mk_spelling.specs.TableSpelling.{ListFits}
use Rattle.mk_spelling.proofs.GraphicLemmas.{all_taken, one_more}
use Rattle.mk_ground_trials.proofs.writing_checks.lists_fit.Goals as goal

pub loop-list-preserved : goal.loop-list-preserved
loop-list-preserved c =
    one_more ListFits c.args.lists.now c.loop-list.list-index c.list-item.result c.loop-list.invariant c.loop-list-test.true c.list-item.is (c.if-not-list_fits.ensures refl)

pub returns : goal.returns
returns c = λ is. all_taken ListFits c.args.lists.now c.loop-list.list-index c.loop-list-test.false c.loop-list.invariant

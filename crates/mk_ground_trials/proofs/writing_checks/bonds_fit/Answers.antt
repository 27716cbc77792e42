use Rattle.std.proofs.Common.{refl}
use Rattle.std.proofs.lemmas.List.Elements.{All-more}
use Rattle.mk_spelling.specs.TableSpelling.{BondFits}
use Rattle.mk_spelling.proofs.GraphicLemmas.{all_taken}
use Rattle.mk_ground_trials.proofs.writing_checks.bonds_fit.Goals as goal

pub loop-bond-preserved : goal.loop-bond-preserved
loop-bond-preserved c = All-more BondFits c.args.bonds.now c.loop-bond.bond-index _ c.loop-bond-test.true c.loop-bond.invariant (c.if-not-bond_fits.ensures refl)

pub returns : goal.returns
returns c = λ is. all_taken BondFits c.args.bonds.now c.loop-bond.bond-index c.loop-bond-test.false c.loop-bond.invariant

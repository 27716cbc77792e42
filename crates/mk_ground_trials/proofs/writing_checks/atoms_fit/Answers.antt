use Rattle.std.proofs.Common.{refl}
use Rattle.mk_tables.specs.declared.raw.RawAtom.{RawAtom}
use Rattle.mk_spelling.specs.TableSpelling.{AtomFits, IsSymbol}
use Rattle.mk_spelling.proofs.GraphicLemmas.{all_taken, one_more}
use Rattle.mk_ground_trials.proofs.writing_checks.atoms_fit.Goals as goal

pub loop-atom-preserved : goal.loop-atom-preserved
loop-atom-preserved c = (
  one_more AtomFits c.args.atoms.now c.loop-atom.atom-index c.atom-item.result c.loop-atom.invariant.0 c.loop-atom-test.true c.atom-item.is (c.if-not-atom_fits.ensures.fits refl),
  one_more (λ (atom : RawAtom). IsSymbol 3 atom.symbol) c.args.atoms.now c.loop-atom.atom-index c.atom-item.result c.loop-atom.invariant.1 c.loop-atom-test.true c.atom-item.is
      (c.if-not-atom_fits.ensures.symbol refl),
)

pub returns-clause-fit : goal.returns-clause-fit
returns-clause-fit c = λ is. all_taken AtomFits c.args.atoms.now c.loop-atom.atom-index c.loop-atom-test.false c.loop-atom.invariant.0

pub returns-clause-symbols : goal.returns-clause-symbols
returns-clause-symbols c = λ is. all_taken (λ (atom : RawAtom). IsSymbol 3 atom.symbol) c.args.atoms.now c.loop-atom.atom-index c.loop-atom-test.false c.loop-atom.invariant.1

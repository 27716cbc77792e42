use Rattle.mk_ground_trials.proofs.writing_checks.atom_list_fits.Goals as goal

pub returns-clause-no_cr : goal.returns-clause-no_cr
returns-clause-no_cr c = rw c.as_slice-symbols.ensures at c.symbols_fit.ensures.no_cr

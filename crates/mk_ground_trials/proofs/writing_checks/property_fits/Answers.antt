use Rattle.std.proofs.Common.{sym, subst}
use Rattle.mk_spelling.specs.TableSpelling.{SymbolsEnd}
use Rattle.mk_ground_trials.proofs.writing_checks.property_fits.Goals as goal

pub returns-in-List-clause-symbols_end : goal.returns-in-List-clause-symbols_end
returns-in-List-clause-symbols_end c = λ is. subst SymbolsEnd (sym c.in-List.is) (c.atom_list_fits.ensures.no_cr is)

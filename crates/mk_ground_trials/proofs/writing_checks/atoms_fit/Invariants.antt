use Rattle.std.proofs.Common.{All, take}
use Rattle.mk_spelling.specs.TableSpelling.{AtomFits, IsSymbol}
use Rattle.mk_ground_trials.proofs.writing_checks.atoms_fit.Given as goal

abbrev pub invariant-loop-atom : goal.invariant-loop-atom
invariant-loop-atom l = All AtomFits (take l.atom-index l.atoms) × All (λ atom. IsSymbol 3 atom.symbol) (take l.atom-index l.atoms)

use Rattle.std.proofs.Common.{All, take}
use Rattle.mk_text.specs.Lines.{EndsWith}
use Rattle.mk_spelling.specs.TableSpelling.{IsSymbol}
use Rattle.mk_ground_trials.proofs.writing_checks.symbols_fit.Given as goal

abbrev pub invariant-loop-symbol : goal.invariant-loop-symbol
invariant-loop-symbol l = All (IsSymbol 4) (take l.symbol-index l.symbols) × All (λ symbol. ¬ (EndsWith 13 symbol)) (take l.symbol-index l.symbols)

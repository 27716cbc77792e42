use Rattle.std.proofs.Common.{◌∙◌, sym}
use Rattle.mk_spelling.proofs.GraphicLemmas.{is_symbol}
use Rattle.mk_ground_trials.proofs.writing_checks.is_writable_symbol.Goals as goal

pub returns-then-symbol-width-clause-fits : goal.returns-then-symbol-width-clause-fits
returns-then-symbol-width-clause-fits c = λ is. is_symbol c.args.width c.args.symbol.now c.if-symbol-width.true (sym c.is_graphic.ensures ∙ is)

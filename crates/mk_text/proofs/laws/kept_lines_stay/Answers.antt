use Rattle.mk_text.proofs.KeptLinesLemmas.{kept_lines_are_read, kept_lines_stay}
use Rattle.mk_text.proofs.laws.kept_lines_stay.Goals as goal

pub returns-clause-lines : goal.returns-clause-lines
returns-clause-lines c = kept_lines_are_read

pub returns-clause-same : goal.returns-clause-same
returns-clause-same c = kept_lines_stay

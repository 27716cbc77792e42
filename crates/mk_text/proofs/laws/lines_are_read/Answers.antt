use Rattle.mk_text.proofs.KeptLinesLemmas.{lines_hold_no_lf, lines_few, text_of_lines_is_read}
use Rattle.mk_text.proofs.laws.lines_are_read.Goals as goal

pub returns-clause-no_lf : goal.returns-clause-no_lf
returns-clause-no_lf c = lines_hold_no_lf

pub returns-clause-few : goal.returns-clause-few
returns-clause-few c = lines_few

pub returns-clause-again : goal.returns-clause-again
returns-clause-again c = text_of_lines_is_read

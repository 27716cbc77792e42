use Rattle.mk_tables.proofs.TableLawLemmas.{blank_is_no_counts_line}
use Rattle.mk_tables.proofs.laws.blank_line_is_no_counts_line.Goals as goal

pub returns : goal.returns
returns c = blank_is_no_counts_line

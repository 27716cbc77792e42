use Rattle.mk_v3000.proofs.KeptLemmas.{kept_lines_are_the_table}
use Rattle.mk_v3000.proofs.laws.kept_lines_are_the_v3000_table.Goals as goal

pub returns : goal.returns
returns c = kept_lines_are_the_table

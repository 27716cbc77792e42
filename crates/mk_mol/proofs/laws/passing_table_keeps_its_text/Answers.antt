use Rattle.mk_mol.proofs.LawLemmas.{keeps_text}
use Rattle.mk_mol.proofs.laws.passing_table_keeps_its_text.Goals as goal

pub returns : goal.returns
returns c = keeps_text

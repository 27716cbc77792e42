use Rattle.mk_library.proofs.EditedRowsLemmas.{edits_keep_reading, edits_of_records}
use Rattle.mk_library.proofs.laws.edits_keep_reading.Goals as goal

pub returns-clause-reading : goal.returns-clause-reading
returns-clause-reading c = edits_keep_reading

pub returns-clause-of_records : goal.returns-clause-of_records
returns-clause-of_records c = edits_of_records

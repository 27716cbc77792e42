use Rattle.mk_edits.proofs.LoadingLemmas.{rows_as_records, rows_few}
use Rattle.mk_edits.proofs.records.put_records.Goals as goal

pub returns : goal.returns
returns c =
    let same = c.texts.ensures.texts in
    rw (rows_few _ _ same, rows_as_records _ _ same) at c.put_rows.ensures

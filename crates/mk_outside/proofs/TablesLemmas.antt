-- A batch leaves rising tables rising.
use Rattle.std.proofs.Common.{◌<◌, List, [], ◌∷◌}
use Rattle.std.proofs.lemmas.List.Kept.{AllPairs-filter}
use Rattle.mk_outside.specs.declared.tables.QueryRow.{QueryRow}
use Rattle.mk_outside.specs.declared.tables.Tables.{Tables}
use Rattle.mk_outside.specs.declared.tables.Change.{Change}
use Rattle.mk_outside.specs.declared.tables.Change.TheVariants.{PutRecord, DropRecord, PutQuery, DropQuery, PutCursor, DropCursor}
use Rattle.mk_outside.specs.Tables.{record_number, query_number, cursor_number, without_name, after_change, after_batch, AreRising}
use Rattle.mk_outside.proofs.RisingRowsLemmas.{put_rising, without_rising}

change_rising : (change : Change) (t : Tables) → AreRising t → AreRising (after_change change t)
unfolding without_name
change_rising (PutRecord number text) t h = record { records = put_rising record_number _ t.records h.records; queries = h.queries; cursors = h.cursors }
change_rising (DropRecord number) t h = record { records = without_rising record_number number t.records h.records; queries = h.queries; cursors = h.cursors }
change_rising (PutQuery number name text) t h = record { records = h.records; queries = put_rising query_number _ t.queries h.queries; cursors = h.cursors }
change_rising (DropQuery name) t h = record {
  records = h.records;
  queries = AllPairs-filter (λ (a b : QueryRow). a.number < b.number) _ t.queries h.queries;
  cursors = h.cursors;
}
change_rising (PutCursor number name place) t h = record { records = h.records; queries = h.queries; cursors = put_rising cursor_number _ t.cursors h.cursors }
change_rising (DropCursor number) t h = record { records = h.records; queries = h.queries; cursors = without_rising cursor_number number t.cursors h.cursors }

pub batch_rising : (batch : List Change) (t : Tables) → AreRising t → AreRising (after_batch batch t)
batch_rising [] t h = h
batch_rising (change ∷ batch) t h = batch_rising batch (after_change change t) (change_rising change t h)

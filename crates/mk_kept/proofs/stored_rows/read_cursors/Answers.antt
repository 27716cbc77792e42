use Rattle.std.proofs.Common.{◌≡◌, ◌++◌, ◌∷◌, [], List, take, length, Some, refl, sym, ap, ◌∙◌, rules}
use Rattle.std.specs.Prelude.{slice_get}
use Rattle.std.proofs.lemmas.Option.{slice_get_read}
use Rattle.mk_outside.specs.declared.tables.CursorRow.{CursorRow}
use Rattle.mk_outside.specs.Tables.{cursor_number}
use Rattle.mk_kept.specs.StoredRows.{ReadsCursor}
use Rattle.mk_kept.proofs.RestoredLemmas.{bad_at, rows_more}
use Rattle.mk_kept.proofs.StoredRowsLemmas.{read_more}
use Rattle.mk_kept.proofs.stored_rows.read_cursors.Goals as goal

pub returns-then-not-has_cursor_place-clause-read : goal.returns-then-not-has_cursor_place-clause-read
returns-then-not-has_cursor_place-clause-read c =
    let there : slice_get c.args.rows.now c.loop-row.row-index ≡ Some c.row-item.result =
    slice_get_read c.args.rows.now (length c.args.rows.now) c.loop-row.row-index c.row-item.result refl
    (search rules) c.row-item.is in
    let Reads = ReadsCursor c.args.saved.now.queries c.args.saved.now.next_cursor in
    let none = rw (c.loop-row.invariant.queries, c.loop-row.invariant.next, c.loop-row.invariant.cursors) at c.has_cursor_place.ensures.none c.if-not-has_cursor_place.true in
    rw c.bad_row.ensures (refl, bad_at Reads cursor_number c.args.rows.now c.loop-row.row-index c.row-item.result there c.loop-row.invariant.read none)

pub loop-row-preserved : goal.loop-row-preserved
loop-row-preserved c =
    let there : slice_get c.args.rows.now c.loop-row.row-index ≡ Some c.row-item.result =
    slice_get_read c.args.rows.now (length c.args.rows.now) c.loop-row.row-index c.row-item.result refl
    (search rules) c.row-item.is in
    let Reads = ReadsCursor c.args.saved.now.queries c.args.saved.now.next_cursor in
    let reads = rw (c.loop-row.invariant.queries, c.loop-row.invariant.next, c.loop-row.invariant.cursors) at c.has_cursor_place.ensures.place c.if-not-has_cursor_place.false in
    record {
      cursors = c.in_ok-keep_cursor.ensures.rows ∙ ap (λ (xs : List CursorRow). xs ++ c.row-item.result ∷ [])
          c.loop-row.invariant.cursors ∙ sym (rows_more c.args.rows.now c.loop-row.row-index c.row-item.result there);
      read = rw (rows_more c.args.rows.now c.loop-row.row-index c.row-item.result there)
          (read_more Reads (take c.loop-row.row-index c.args.rows.now) c.row-item.result c.loop-row.invariant.read
          reads);
      queries = c.keep_cursor.ensures.queries ∙ c.loop-row.invariant.queries;
      next = c.keep_cursor.ensures.next ∙ c.loop-row.invariant.next;
    }

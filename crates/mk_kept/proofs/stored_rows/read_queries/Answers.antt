use Rattle.std.proofs.Common.{◌≡◌, ◌++◌, ◌∷◌, [], List, take, length, Some, refl, sym, ap, ◌∙◌, rules}
use Rattle.std.specs.Prelude.{slice_get}
use Rattle.std.proofs.lemmas.Option.{slice_get_read}
use Rattle.mk_outside.specs.declared.tables.QueryRow.{QueryRow}
use Rattle.mk_outside.specs.Tables.{query_number}
use Rattle.mk_kept.specs.StoredRows.{HasQueryPlace, ReadsQuery}
use Rattle.mk_kept.proofs.RestoredLemmas.{bad_at, rows_more}
use Rattle.mk_kept.proofs.StoredRowsLemmas.{read_more}
use Rattle.mk_kept.proofs.stored_rows.read_queries.Goals as goal

pub returns-then-not-has_query_place-clause-read : goal.returns-then-not-has_query_place-clause-read
returns-then-not-has_query_place-clause-read c =
    let there : slice_get c.args.rows.now c.loop-row.row-index ≡ Some c.row-item.result =
    slice_get_read c.args.rows.now (length c.args.rows.now) c.loop-row.row-index c.row-item.result refl
    (search rules) c.row-item.is in
    let none = rw c.loop-row.invariant.queries at c.has_query_place.ensures.none c.if-not-has_query_place.true in
    rw c.bad_row.ensures (refl, bad_at ReadsQuery query_number c.args.rows.now c.loop-row.row-index c.row-item.result there c.loop-row.invariant.read (λ reads. none reads.place))

pub returns-in_default-clause-read : goal.returns-in_default-clause-read
returns-in_default-clause-read c =
    let there : slice_get c.args.rows.now c.loop-row.row-index ≡ Some c.row-item.result =
    slice_get_read c.args.rows.now (length c.args.rows.now) c.loop-row.row-index c.row-item.result refl
    (search rules) c.row-item.is in
    let none = rw c.as_slice.ensures at rw c.in_default.is at c.in_ok-query.ensures in
    rw c.bad_row-in_default.ensures (refl, bad_at ReadsQuery query_number c.args.rows.now c.loop-row.row-index c.row-item.result there c.loop-row.invariant.read (λ reads. none reads.text))

pub loop-row-preserved : goal.loop-row-preserved
loop-row-preserved c =
    let there : slice_get c.args.rows.now c.loop-row.row-index ≡ Some c.row-item.result =
    slice_get_read c.args.rows.now (length c.args.rows.now) c.loop-row.row-index c.row-item.result refl
    (search rules) c.row-item.is in
    let place : HasQueryPlace (take c.loop-row.row-index c.args.rows.now) c.row-item.result = rw c.loop-row.invariant.queries at c.has_query_place.ensures.place c.if-not-has_query_place.false in
    let meant = rw c.as_slice.ensures at rw c.in-Some.is at c.in_ok-query.ensures in
    record {
      queries = c.in_ok-keep_query.ensures.rows ∙ ap (λ (xs : List QueryRow). xs ++ c.row-item.result ∷ [])
          c.loop-row.invariant.queries ∙ sym (rows_more c.args.rows.now c.loop-row.row-index c.row-item.result there);
      read = rw (rows_more c.args.rows.now c.loop-row.row-index c.row-item.result there)
          (read_more ReadsQuery (take c.loop-row.row-index c.args.rows.now) c.row-item.result c.loop-row.invariant.read
          (record { place = place; text = (c.in-Some.query, meant) }));
      cursors = c.keep_query.ensures.cursors ∙ c.loop-row.invariant.cursors;
      next = c.keep_query.ensures.next ∙ c.loop-row.invariant.next;
    }

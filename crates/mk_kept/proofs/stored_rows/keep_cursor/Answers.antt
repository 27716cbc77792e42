use Rattle.std.proofs.Common.{◌∙◌, ap}
use Rattle.mk_outside.specs.declared.tables.Tables.{Tables}
use Rattle.mk_outside.specs.Tables.{cursor_number}
use Rattle.mk_kept.proofs.SavedLemmas.{put_behind}
use Rattle.mk_kept.proofs.stored_rows.keep_cursor.Goals as goal

pub returns-clause-rows : goal.returns-clause-rows
returns-clause-rows c =
    let cursors = ap (λ (t : Tables). t.cursors) c.put_cursor.ensures.tables in
    rw (
      c.of-name.ensures,
      c.in_ok-from_slice.ensures.items,
      c.as_slice.ensures,
      c.of-place.ensures,
      c.in_ok-from_slice-2.ensures.items,
      c.as_slice-2.ensures,
      c.in_ok-reserve_cursor.ensures.same.cursors,
    )
    at cursors
    ∙ put_behind cursor_number c.args.row.now c.args.saved.now.cursors c.requires.above

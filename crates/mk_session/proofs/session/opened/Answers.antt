use Rattle.std.proofs.Common.{refl}
use Rattle.mk_kept.specs.StoredRows.{BadRecord}
use Rattle.mk_session.proofs.OpeningLemmas.{opened_fail, opened_tables}
use Rattle.mk_session.proofs.session.opened.Goals as goal

pub returns-in-Err-Bad : goal.returns-in-Err-Bad
returns-in-Err-Bad c = rw c.in-Err-Bad.field-0-is (BadRecord (rw c.as_slice.ensures at (rw c.in-Err-Bad.field-0-is at c.in-Err-Bad.ensures.bad)) refl)

pub returns-in-Err : goal.returns-in-Err
returns-in-Err c = opened_fail c.args.tables c.in-Err.fail (rw c.as_slice.ensures at c.in-Ok.ensures.read) c.in-Err.ensures

pub returns : goal.returns
returns c =
    let is = c.in-Ok-saved_of.ensures in (
      opened_tables c.args.tables c.in-Ok.library c.in-Ok-saved_of.saved
          (rw c.as_slice.ensures at c.in-Ok.ensures.records) c.in-Ok.ensures.next is.0 is.1 is.2,
      is.3 (rw c.as_slice.ensures at c.in-Ok.ensures.read),
    )

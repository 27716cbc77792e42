use Rattle.std.proofs.Common.{◌≡◌, ◌∙◌, take, Some, length, refl, rules}
use Rattle.std.specs.Prelude.{slice_get}
use Rattle.std.proofs.lemmas.Option.{slice_get_read}
use Rattle.mk_library.specs.StoredRows.{HasPlace}
use Rattle.mk_library.proofs.StoredLemmas.{read_all, read_more, records_more}
use Rattle.mk_library.proofs.library.Library.restore.Goals as goal

pub loop-row-preserved : goal.loop-row-preserved
loop-row-preserved c =
    let there : slice_get c.args.rows.now c.loop-row.row-index ≡ Some c.row-item.result =
    slice_get_read c.args.rows.now (length c.args.rows.now) c.loop-row.row-index c.row-item.result refl
    (search rules) c.row-item.is in
    let place : HasPlace c.args.next (take c.loop-row.row-index c.args.rows.now) c.row-item.result =
    rw (c.loop-row.invariant.next, c.loop-row.invariant.records) at c.has_place.ensures.place
    c.if-not-has_place.false in
    let molecule = rw c.as_slice.ensures at rw c.in-Some.is at c.in_ok-mol.ensures in
    record {
      records = records_more c.args.rows.now c.reserve.new.self.records c.put_stored.new.self.records c.loop-row.row-index c.row-item.result c.in_ok-text.text
          (c.reserve.ensures.same.records ∙ c.loop-row.invariant.records) there (c.in_ok-text.ensures ∙ c.as_slice-in-loop-row.ensures) c.put_stored.ensures.records;
      read = read_more c.args.next c.args.rows.now c.loop-row.row-index c.row-item.result c.loop-row.invariant.read there (record { place = place; text = molecule.is });
      next = c.put_stored.ensures.next ∙ c.reserve.ensures.same.next_record ∙ c.loop-row.invariant.next;
    }

pub returns-clause-read : goal.returns-clause-read
returns-clause-read c = read_all c.args.next c.args.rows.now c.loop-row.row-index c.loop-row.invariant.read (search rules)

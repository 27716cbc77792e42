use Rattle.std.proofs.Common.{◌∙◌, ◌↔◌, List, length, ap, arith, rules, subst, sym}
use Rattle.mk_index.specs.Postings.{IsPosting}
use Rattle.mk_model.specs.Molecules.{Molecule}
use Rattle.mk_rows.specs.declared.by_number.Numbered.{Numbered}
use Rattle.mk_library.specs.Records.{record_of}
use Rattle.mk_library.proofs.RebuiltLemmas.{again_behind, all_again, row_at, text_again, text_short}
use Rattle.mk_library.proofs.StoredLemmas.{records_more}
use Rattle.mk_library.proofs.library.Library.rebuilt.Goals as goal

pub molecule_of_text-requires : goal.molecule_of_text-requires
molecule_of_text-requires c =
    let there = row_at c.args.self.now.records c.texts-row-items.result.now c.loop-row.row-index c.row-item.result c.texts-row-items.ensures.texts (search rules) c.row-item.is in
    let short = text_short c.args.self.now c.loop-row.row-index (record_of c.row-item.result) c.texts-row-items.ensures.kept there in
    omega (arith, short, ap length c.as_slice.ensures)

pub unreachable-requires : goal.unreachable-requires
unreachable-requires c =
    let there = row_at c.args.self.now.records c.texts-row-items.result.now c.loop-row.row-index c.row-item.result c.texts-row-items.ensures.texts (search rules) c.row-item.is in
    (rw c.as_slice.ensures at rw c.in_default.is at c.in_ok-mol.ensures)
    (text_again c.args.self.now c.loop-row.row-index (record_of c.row-item.result) c.texts-row-items.ensures.kept there)

pub put_stored-requires-clause-place : goal.put_stored-requires-clause-place
put_stored-requires-clause-place c =
    let there = row_at c.args.self.now.records c.texts-row-items.result.now c.loop-row.row-index c.row-item.result c.texts-row-items.ensures.texts (search rules) c.row-item.is in
    rw (c.reserve.ensures.same.next_record, c.loop-row.invariant.next, c.reserve.ensures.same.records, c.loop-row.invariant.records, c.in_ok-text.ensures, c.as_slice-in-loop-row.ensures)
    (again_behind c.args.self.now c.loop-row.row-index (record_of c.row-item.result) c.texts-row-items.ensures.kept there)

pub loop-row-preserved : goal.loop-row-preserved
loop-row-preserved c =
    let there = row_at c.args.self.now.records c.texts-row-items.result.now c.loop-row.row-index c.row-item.result c.texts-row-items.ensures.texts (search rules) c.row-item.is in
    record {
      records = records_more c.args.self.now.records c.reserve.new.self.records c.put_stored.new.self.records c.loop-row.row-index (record_of c.row-item.result) c.in_ok-text.text
          (c.reserve.ensures.same.records ∙ c.loop-row.invariant.records) there (c.in_ok-text.ensures ∙ c.as_slice-in-loop-row.ensures) c.put_stored.ensures.records;
      next = c.put_stored.ensures.next ∙ c.reserve.ensures.same.next_record ∙ c.loop-row.invariant.next;
    }

pub have_same_molecules-requires : goal.have_same_molecules-requires
have_same_molecules-requires c = all_again c.args.self.now.records c.loop-row.library.records
    c.texts-row-items.result.now c.loop-row.row-index c.texts-row-items.ensures.texts c.loop-row.invariant.records
    (search rules)

pub returns : goal.returns
returns c = record {
  same = record {
    records = all_again c.args.self.now.records c.loop-row.library.records c.texts-row-items.result.now
        c.loop-row.row-index c.texts-row-items.ensures.texts c.loop-row.invariant.records (search rules);
    rows = c.have_same_molecules.ensures;
    next_record = c.loop-row.invariant.next;
  };
  postings = λ bit numbers. subst (λ (rows : List (Numbered Molecule)). IsPosting c.args.self.now.rows bit
      numbers ↔ IsPosting rows bit numbers) (sym c.have_same_molecules.ensures) ((λ h. h), (λ h. h));
}

use Rattle.std.proofs.Common.{◌<◌, ◌≤◌, ◌-◌, length, arith, sym, ap, subst}
use Rattle.std.specs.List.{AllByRecursion}
use Rattle.std.proofs.lemmas.List.{length-map}
use Rattle.std.proofs.lemmas.Bool.{leb-true}
use Rattle.mk_outside.specs.declared.tables.RecordRow.{RecordRow}
use Rattle.mk_library.specs.Library.{LibraryView}
use Rattle.mk_library.specs.StoredRows.{HasPlace}
use Rattle.mk_library.proofs.StoredLemmas.{all_under, not_under}
use Rattle.mk_library.proofs.library.Library.has_place.Goals as goal

pub returns-in-Some-clause-none : goal.returns-in-Some-clause-none
returns-in-Some-clause-none c = λ _ place.
    not_under c.args.row.now.number _ c.self.inside.texts.rows c.in-Some.ensures.some
    (subst (λ (v : LibraryView). AllByRecursion (λ (row : RecordRow). row.number < c.args.row.now.number) v.records) (sym c.self.view_is) place.above)

pub returns-clause-place : goal.returns-clause-place
returns-clause-place c = λ yes.
    let fits : length c.as_slice-size.result.now ≤ 134217728 - c.self.inside.bytes = leb-true _ _ yes in
    subst (λ (v : LibraryView). HasPlace v.next_record v.records c.args.row.now) c.self.view_is (record {
      least = omega (arith, c.if-number-eq0.false);
      most = omega (arith, c.if-number-gt-MOST_NUMBER.false);
      above = all_under c.args.row.now.number c.self.inside.texts.rows c.in_default.ensures.none;
      below_next = omega (arith, c.if-number-self.false);
      few = rw length-map (omega (arith, c.if-rows-ge-MOST_RECORDS.false, ap length c.rows.ensures.rows));
      bytes = omega (arith, fits, c.self.invariant.0.counted, c.self.invariant.0.limits.short, ap length c.as_slice-size.ensures);
      short = omega (arith, c.if-size.false, ap length c.as_slice-size.ensures);
    })

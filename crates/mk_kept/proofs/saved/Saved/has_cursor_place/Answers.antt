use Rattle.std.proofs.Common.{◌≡◌, ◌<◌, ◌∙◌, length, true, arith, sym, ap, subst}
use Rattle.std.specs.List.{AllByRecursion}
use Rattle.std.proofs.lemmas.List.{length-map}
use Rattle.mk_outside.specs.declared.tables.CursorRow.{CursorRow}
use Rattle.mk_kept.specs.Saved.{SavedView, cursor_row, is_named}
use Rattle.mk_kept.proofs.SavedSearchLemmas.{all_under, not_under}
use Rattle.mk_kept.proofs.saved.Saved.has_cursor_place.Goals as goal

pub returns-in-Some-clause-none : goal.returns-in-Some-clause-none
returns-in-Some-clause-none c = λ _ place.
    not_under c.args.row.now.number _ c.self.inside.cursors.rows c.in-Some.ensures.some
    (subst (λ (v : SavedView). AllByRecursion (λ (row : CursorRow). row.number < c.args.row.now.number) v.cursors) (sym c.self.view_is) place.above)

pub returns-clause-place : goal.returns-clause-place
returns-clause-place c = λ held.
    let named : is_named c.args.row.now.name c.args.self.now.queries ≡ true = rw c.as_slice-2.ensures at (sym c.holds.ensures ∙ held) in
    let below : c.args.row.now.number < c.args.self.now.next_cursor = subst (λ (v : SavedView). c.args.row.now.number < v.next_cursor) c.self.view_is (omega (arith, c.if-number-self.false)) in
    let size = length-map c.self.inside.cursors.rows cursor_row in
    let few : length c.args.self.now.cursors < 1000 = subst (λ (v : SavedView). length v.cursors < 1000) c.self.view_is
    (omega (arith, c.if-rows-ge-MOST_SEARCHES.false, ap length c.rows.ensures.rows, size)) in
    record {
      number = (omega (arith, c.if-number-eq0.false), omega (arith, c.if-number-gt-MOST_SEARCH_NUMBER.false));
      above = subst (λ (v : SavedView). AllByRecursion (λ (row : CursorRow). row.number < c.args.row.now.number)
          v.cursors) c.self.view_is (all_under c.args.row.now.number c.self.inside.cursors.rows
          c.in_default.ensures.none);
      below = below;
      name = named;
      few = few;
      short = omega (arith, c.if-as_slice-gt-LONGEST_PLACE.false, ap length c.as_slice.ensures);
    }

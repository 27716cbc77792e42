use Rattle.std.proofs.Common.{◌≡◌, ◌≤◌, ◌∙◌, ◌-◌, length, false, arith, sym, ap}
use Rattle.std.proofs.lemmas.Bool.{leb-true, leb-false}
use Rattle.mk_kept.specs.Names.{IsName}
use Rattle.mk_kept.specs.Saved.{SavedView, bytes_of_texts, is_named}
use Rattle.mk_kept.proofs.SavedLemmas.{above_greatest, below_all}
use Rattle.mk_kept.proofs.saved.Saved.has_query_place.Goals as goal

pub returns-then-row-greatest_number-clause-none : goal.returns-then-row-greatest_number-clause-none
returns-then-row-greatest_number-clause-none c = λ _ place.
    let above = above_greatest c.args.row.now.number c.args.self.now.queries place.number place.above in
    omega (arith, above, c.if-row-greatest_number.true, c.greatest_number.ensures.greatest)

pub returns-then-size-le-MOST_QUERY_BYTES-clause-place : goal.returns-then-size-le-MOST_QUERY_BYTES-clause-place
returns-then-size-le-MOST_QUERY_BYTES-clause-place c = λ fits.
    let within : length c.as_slice-size.result.now ≤ 33554432 - c.self.inside.bytes = leb-true _ _ fits in
    let inv = c.self.invariant in
    let size = ap length c.as_slice-size.ensures in
    let name : IsName c.args.row.now.name = rw c.as_slice-name.ensures at (sym c.is_name.ensures ∙ c.if-not-is_name.false) in
    let new : is_named c.args.row.now.name c.args.self.now.queries ≡ false = rw c.as_slice-name.ensures at (sym c.holds.ensures ∙ c.if-holds.false) in
    let bytes : bytes_of_texts c.args.self.now.queries ≡ c.self.inside.bytes = ap (λ (v : SavedView). bytes_of_texts v.queries) (sym c.self.view_is) ∙ sym inv.counted in
    record {
      number = omega (arith, c.if-row-greatest_number.false);
      above = below_all c.greatest_number.result c.args.row.now.number c.args.self.now.queries (omega (arith, c.if-row-greatest_number.false)) c.greatest_number.ensures.least;
      name = name;
      new = new;
      few = leb-false _ _ (sym c.is_full.ensures ∙ c.if-is_full.false);
      bytes = omega (arith, bytes, within, size, inv.counted, inv.short);
      short = omega (arith, c.if-size-le-MOST_QUERY_BYTES.true, size);
    }

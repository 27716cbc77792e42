use Rattle.std.proofs.Common.{ℕ, refl}
use borrow.Author.Count.{below_more}
use Rattle.mk_choice.specs.Bounds.{IsRowOfBounds}
use Rattle.mk_choice.proofs.RowLemmas.{rows_all}
use Rattle.mk_choice.proofs.bounds.are_bounds.Goals as goal

pub loop-h-preserved : goal.loop-h-preserved
loop-h-preserved c =
    let P : ℕ → Type 0 = λ k. IsRowOfBounds c.args.query.now c.args.most.now k in
    below_more P c.loop-h.h c.loop-h.invariant (c.if-not-is_row_of_bounds.ensures refl)

pub returns-clause-bounds : goal.returns-clause-bounds
returns-clause-bounds c = λ _.
    rows_all c.args.query.now c.args.most.now c.groups-h-end.ensures.kept.few_members.all_groups c.loop-h.h (rw c.groups-h-end.ensures.list at c.loop-h-test.false) c.loop-h.invariant

use Rattle.std.proofs.Common.{◌≡◌, ◌*◌, ◌+◌, ◌/◌, arith, sym, ap, subst, ◌∙◌, List, lit≤, true}
use Rattle.mk_outside.specs.declared.tables.RecordRow.{RecordRow}
use Rattle.mk_outside.specs.Rows.{without}
use Rattle.mk_outside.specs.Tables.{record_number}
use Rattle.mk_library.specs.Records.{AreHeld, is_held}
use Rattle.mk_drill.specs.DrilledRecords.{drilled_records, left_below}
use Rattle.mk_drill.proofs.HeldLemmas.{left_held}
use Rattle.mk_drill.proofs.RecordsLemmas.{left_more, left_none, next_held}
use Rattle.mk_drill.proofs.drilled_records.remove_multiples.Goals as goal

pub loop-k-init : goal.loop-k-init
loop-k-init c = c.requires ∙ sym (left_none c.args.start 1 c.args.count (lit≤ tt)) ∙ ap (left_below 0) (sym c.requires)

pub remove_record-requires : goal.remove_record-requires
remove_record-requires c =
    subst (λ (rows : List RecordRow). is_held (5 * c.loop-k.k + 5) rows ≡ true) (sym (c.loop-k.invariant ∙ ap (left_below c.loop-k.k) c.requires))
    (next_held c.args.start c.args.count c.loop-k.k (omega (arith, c.loop-k-test.true)))

pub loop-k-preserved : goal.loop-k-preserved
loop-k-preserved c =
    c.in_ok-remove_record.ensures ∙ ap (λ (rows : List RecordRow). without record_number (5 * c.loop-k.k + 5) rows) c.loop-k.invariant ∙ left_more c.loop-k.k c.args.library.now.records

pub returns : goal.returns
returns c =
    let all : c.loop-k.k ≡ c.args.count / 5 = omega (arith, c.loop-k-test.false, c.loop-k.auto.k-end) in
    let records : c.loop-k.library.records ≡ left_below (c.args.count / 5) (drilled_records c.args.start c.args.count) =
    c.loop-k.invariant ∙ ap (left_below c.loop-k.k) c.requires ∙ ap (λ k. left_below k (drilled_records c.args.start c.args.count)) all in
    left_held c.args.start c.args.count c.loop-k.library.rows c.one_filled_molecule.ensures
    (subst (λ (rows : List RecordRow). AreHeld rows c.loop-k.library.rows) records (rw c.shelf.ensures.rows at c.shelf.ensures.held))

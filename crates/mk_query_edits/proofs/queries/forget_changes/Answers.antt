use Rattle.std.proofs.Common.{ap, sym, true, false, append-nil, ◌∙◌}
use Rattle.mk_query_edits.proofs.QueriesLemmas.{dropped_more}
use Rattle.mk_query_edits.proofs.queries.forget_changes.Goals as goal
use Rattle.mk_query_edits.proofs.queries.forget_changes.Goals.{else-eq, then-eq+in_ok-push}

pub loop-row-preserved : goal.loop-row-preserved
loop-row-preserved c =
    let name = c.args.name.now in
    let rows = c.cursors-row-items.result.now in
    let row = c.row-item.result in
    let changes = c.loop-row.changes.items in
    let same = rw (c.as_slice.ensures, c.as_bytes.ensures.value) at c.eq.ensures in
    elim c.if-eq.branch [
      | then-eq+in_ok-push w ↦ ap (λ v. v.items) w.changes-is ∙ w.in_ok-push.ensures.items
          ∙ dropped_more name rows c.loop-row.row-index row true changes c.loop-row-test.true c.row-item.is (sym same ∙ w.if-eq.true) c.loop-row.invariant
      | else-eq w ↦ ap (λ v. v.items) w.changes-is ∙ sym (append-nil changes)
          ∙ dropped_more name rows c.loop-row.row-index row false changes c.loop-row-test.true c.row-item.is (sym same ∙ w.if-eq.false) c.loop-row.invariant
    ]

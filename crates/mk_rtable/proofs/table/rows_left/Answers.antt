use Rattle.std.proofs.Common.{arith}
use Rattle.mk_rtable.proofs.RecordsLemmas.{begins_all, ends_begins, ends_table, fewer, goes_on, rows_all, rows_none}
use Rattle.mk_rtable.proofs.table.rows_left.Goals as goal

pub loop-rows-init : goal.loop-rows-init
loop-rows-init g c = rw c.new-rows.ensures.items (record {
  so_far = rows_none c.args.hits.now.rows c.args.query.now c.args.hits.now c.args.steps.now c.requires;
  steps = omega arith;
})

pub loop-rows-preserved : goal.loop-rows-preserved
loop-rows-preserved g c =
    let t = rw c.in-Some.is at c.in_ok-key.ensures.next in
    let made = rw c.as_slice.ensures at c.in_ok-row.ensures.row in
    let up = rw c.if-not-pass_record.false at c.pass_record.ensures.passed in
    rw c.in_ok-push.ensures.items (record {
      so_far = goes_on c.args.hits.now.rows c.args.query.now c.loop-rows.hits c.loop-rows.rows.items c.args.steps.now c.loop-rows.steps c.loop-rows.invariant.so_far
          c.next.new.self c.in-Some.key c.next.new.steps t c.in_ok-row.row made c.pass_record.new.self up;
      steps = omega (arith, c.loop-rows.invariant.steps, c.next.ensures.steps);
    })

pub loop-rows-smaller : goal.loop-rows-smaller
loop-rows-smaller g c =
    let t = rw c.in-Some.is at c.in_ok-key.ensures.next in
    let made = rw c.as_slice.ensures at c.in_ok-row.ensures.row in
    let up = rw c.if-not-pass_record.false at c.pass_record.ensures.passed in
    fewer c.args.hits.now.rows c.args.query.now c.loop-rows.hits _ c.args.steps.now c.loop-rows.steps c.loop-rows.invariant.so_far
    c.next.new.self c.in-Some.key c.next.new.steps t c.in_ok-row.row made c.pass_record.new.self up 4294967296 c.in_ok-row.ensures.fits

pub returns-then-not-pass_record-clause-table : goal.returns-then-not-pass_record-clause-table
returns-then-not-pass_record-clause-table g c =
    let t = rw c.in-Some.is at c.in_ok-key.ensures.next in
    let made = rw c.as_slice.ensures at c.in_ok-row.ensures.row in
    let last = rw c.if-not-pass_record.true at c.pass_record.ensures.passed in
    rw (c.of.ensures, c.in_ok-push.ensures.items)
    (ends_table c.args.hits.now.rows c.args.query.now c.loop-rows.hits c.loop-rows.rows.items c.args.steps.now c.loop-rows.steps c.loop-rows.invariant.so_far
    c.next.new.self c.in-Some.key c.next.new.steps t c.in_ok-row.row made last.1)

pub returns-then-not-pass_record-clause-begins : goal.returns-then-not-pass_record-clause-begins
returns-then-not-pass_record-clause-begins g c =
    let t = rw c.in-Some.is at c.in_ok-key.ensures.next in
    let made = rw c.as_slice.ensures at c.in_ok-row.ensures.row in
    let last = rw c.if-not-pass_record.true at c.pass_record.ensures.passed in
    ends_begins c.args.hits.now.rows c.args.query.now c.loop-rows.hits c.loop-rows.rows.items c.args.steps.now c.loop-rows.steps c.loop-rows.invariant.so_far
    c.next.new.self c.in-Some.key c.next.new.steps t c.in_ok-row.row made last.1

pub returns-clause-table : goal.returns-clause-table
returns-clause-table g c =
    let t = rw c.in_default.is at c.in_ok-key.ensures.next in
    rw c.of-2.ensures
    (rows_all c.args.hits.now.rows c.args.query.now c.loop-rows.hits c.loop-rows.rows.items c.args.steps.now c.loop-rows.steps c.loop-rows.invariant.so_far
    c.next.new.self c.next.new.steps t)

pub returns-clause-begins : goal.returns-clause-begins
returns-clause-begins g c =
    let t = rw c.in_default.is at c.in_ok-key.ensures.next in
    begins_all c.args.hits.now.rows c.args.query.now c.loop-rows.hits c.loop-rows.rows.items c.args.steps.now c.loop-rows.steps c.loop-rows.invariant.so_far
    c.next.new.self c.next.new.steps t

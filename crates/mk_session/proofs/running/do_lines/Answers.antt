use Rattle.std.proofs.Common.{◌∙◌, take, drop, ◌+◌, get_or}
use Rattle.std.specs.Prelude.{slice_range}
use Rattle.mk_text.specs.declared.cutting.Span.{Span}
use Rattle.mk_text.specs.Spans.{parts}
use Rattle.mk_session.specs.Orders.{orders_of, orders_of_line}
use Rattle.mk_session.proofs.TurnLemmas.{done_more, halted_then, missed_then, misses_more, orders_next, orders_split}
use Rattle.mk_session.proofs.running.do_lines.Goals as goal

pub loop-span-preserved : goal.loop-span-preserved
loop-span-preserved g c =
    let v = c.loop-span.invariant in
    let span : Span = get_or c.args.lines.now c.loop-span.span-index (record { from = 0; to = 0 }) in
    let next = orders_next c.args.text.now c.args.lines.now c.loop-span.span-index (record { from = 0; to = 0 }) c.loop-span-test.true in
    record {
      turns = done_more _ _ _ _ _ _ _ _ _ _ _ _ _ _ _ _ v.turns (rw v.same_files at c.in-Ok.ensures.turns) c.either-refused.ensures next;
      kept = λ s e. c.do_line.ensures.kept s (v.kept (c.do_line.ensures.sound s) e);
      sound = λ s. v.sound (c.do_line.ensures.sound s);
      same_files = c.do_line.ensures.same_files ∙ v.same_files;
      missed = rw next (misses_more _ _ _ (orders_of (parts c.args.text.now
          (take c.loop-span.span-index c.args.lines.now)))
          (orders_of_line (slice_range c.args.text.now span.from span.to)) v.turns.effects _ _ _ v.turns.does
          v.turns.tables v.missed (rw v.same_files at c.do_line.ensures.missed));
    }

pub returns-in-Err-clause-turns : goal.returns-in-Err-clause-turns
returns-in-Err-clause-turns g c =
    let v = c.loop-span.invariant in
    halted_then _ _ _ _ _ _ _ _ _ _ _ _ _ _ _ _ v.turns (rw v.same_files at c.in-Err.ensures.turns)
    (orders_split c.args.text.now c.args.lines.now c.loop-span.span-index (record { from = 0; to = 0 }) c.loop-span-test.true)

pub returns-in-Err-clause-missed : goal.returns-in-Err-clause-missed
returns-in-Err-clause-missed g c =
    let v = c.loop-span.invariant in
    let span : Span = get_or c.args.lines.now c.loop-span.span-index (record { from = 0; to = 0 }) in
    missed_then _ _ _ (orders_of (parts c.args.text.now (take c.loop-span.span-index c.args.lines.now))) (orders_of_line (slice_range c.args.text.now span.from span.to))
    (orders_of (parts c.args.text.now (drop (c.loop-span.span-index + 1) c.args.lines.now))) _ v.turns.effects _ _ _ v.turns.does v.turns.tables v.missed (rw v.same_files at c.do_line.ensures.missed)
    (orders_split c.args.text.now c.args.lines.now c.loop-span.span-index (record { from = 0; to = 0 }) c.loop-span-test.true)

use Rattle.std.proofs.Common.{◌≡◌, take, Some}
use Rattle.mk_text.specs.Spans.{parts}
use Rattle.mk_session.specs.Orders.{orders_of}
use Rattle.mk_session.specs.Run.{Misses}
use Rattle.mk_session.specs.Turns.{IsDoneAll}
use Rattle.mk_session.proofs.running.do_lines.Given as goal

abbrev pub invariant-loop-span : goal.invariant-loop-span
invariant-loop-span g l = record {
  turns : IsDoneAll (g.F.Files.look_up l.initial.files) l.initial.session l.session (orders_of (parts l.text (take l.span-index l.lines)))
      (g.W.Sink.so_far l.initial.output) (g.W.Sink.so_far l.output)
      (record { files = g.F.Files.faults l.initial.files; output = g.W.Sink.faults l.initial.output; keeper = g.K.Keeper.faults l.initial.keeper })
      (record { files = g.F.Files.faults l.files; output = g.W.Sink.faults l.output; keeper = g.K.Keeper.faults l.keeper }) l.refused;
  kept : g.K.Keeper.sound l.keeper → g.K.Keeper.tables l.initial.keeper ≡ Some l.initial.session → g.K.Keeper.tables l.keeper ≡ Some l.session;
  sound : g.K.Keeper.sound l.keeper → g.K.Keeper.sound l.initial.keeper;
  same_files : g.F.Files.look_up l.files ≡ g.F.Files.look_up l.initial.files;
  missed : Misses (g.F.Files.look_up l.initial.files) l.initial.session (orders_of (parts l.text (take l.span-index l.lines))) (g.F.Files.absences l.initial.files) (g.F.Files.absences l.files);
}

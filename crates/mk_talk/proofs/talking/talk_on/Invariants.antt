use Rattle.std.proofs.Common.{◌≡◌, ◌≤◌, Some}
use Rattle.std.specs.Vec.{vec_capacity}
use Rattle.mk_talk.proofs.TalkingLemmas.{IsTalking}
use Rattle.mk_talk.proofs.talking.talk_on.Given as goal

abbrev pub invariant-loop-count : goal.invariant-loop-count
invariant-loop-count g l = record {
  talking : IsTalking (g.F.Files.look_up l.initial.files)
      (record { tables = l.initial.session; files = g.F.Files.faults l.initial.files; keeper = g.K.Keeper.faults l.initial.keeper })
      (record { tables = l.session; files = g.F.Files.faults l.files; keeper = g.K.Keeper.faults l.keeper })
      (g.T.Talk.history l.initial.talk) (g.T.Talk.history l.talk) l.line.items l._count;
  room : 65537 ≤ vec_capacity l.line;
  kept : g.K.Keeper.sound l.keeper → g.K.Keeper.tables l.initial.keeper ≡ Some l.initial.session → g.K.Keeper.tables l.keeper ≡ Some l.session;
  sound : g.K.Keeper.sound l.keeper → g.K.Keeper.sound l.initial.keeper;
  same_files : g.F.Files.look_up l.files ≡ g.F.Files.look_up l.initial.files;
}

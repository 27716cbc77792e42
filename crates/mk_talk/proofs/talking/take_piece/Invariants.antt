use Rattle.std.proofs.Common.{◌≡◌, ◌≤◌, take, Some}
use Rattle.std.specs.Vec.{vec_capacity}
use Rattle.mk_talk.specs.Cutting.{cut_from, left_from}
use Rattle.mk_talk.specs.Lines.{orders_of_all}
use Rattle.mk_talk.specs.Speaking.{IsAllAnswered}
use Rattle.mk_talk.proofs.talking.take_piece.Given as goal

abbrev pub invariant-loop-byte : goal.invariant-loop-byte
invariant-loop-byte g l = record {
  all : IsAllAnswered (g.F.Files.look_up l.initial.files)
      (record { tables = l.initial.session; files = g.F.Files.faults l.initial.files; keeper = g.K.Keeper.faults l.initial.keeper })
      (record { tables = l.session; files = g.F.Files.faults l.files; keeper = g.K.Keeper.faults l.keeper })
      (orders_of_all (cut_from 65536 l.initial.line.items (take l.byte-index l.piece))) (g.T.Talk.history l.initial.talk) (g.T.Talk.history l.talk);
  left : l.line.items ≡ left_from 65536 l.initial.line.items (take l.byte-index l.piece);
  room : 65537 ≤ vec_capacity l.line;
  kept : g.K.Keeper.sound l.keeper → g.K.Keeper.tables l.initial.keeper ≡ Some l.initial.session → g.K.Keeper.tables l.keeper ≡ Some l.session;
  sound : g.K.Keeper.sound l.keeper → g.K.Keeper.sound l.initial.keeper;
  same_files : g.F.Files.look_up l.files ≡ g.F.Files.look_up l.initial.files;
}

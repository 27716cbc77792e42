use Rattle.std.proofs.Common.{◌∙◌}
use Rattle.mk_talk.proofs.SpeakingLemmas.{byte_kept_next, byte_next, byte_stops}
use Rattle.mk_talk.proofs.talking.take_piece.Goals as goal

pub returns-in-Err-clause-goes : goal.returns-in-Err-clause-goes
returns-in-Err-clause-goes g c =
    let here = c.loop-byte.invariant in
    byte_stops _ _ _ c.args.line.now.items c.args.piece.now c.loop-byte.line.items c.loop-byte.byte-index 0 c.loop-byte-test.true _ _ here.all here.left
    _ _ c.in-Err.status (rw here.same_files at c.in-Err.ensures.goes)

pub loop-byte-preserved : goal.loop-byte-preserved
loop-byte-preserved g c =
    let here = c.loop-byte.invariant in
    let taken = c.in_default.ensures in
    record {
      all = byte_next _ _ _ c.args.line.now.items c.args.piece.now c.loop-byte.line.items c.loop-byte.byte-index 0 c.loop-byte-test.true _ _ here.all here.left
          _ _ (rw here.same_files at taken.goes);
      left = byte_kept_next _ _ _ c.args.line.now.items c.args.piece.now c.loop-byte.line.items c.loop-byte.byte-index 0 c.loop-byte-test.true _ _ here.all here.left
          _ taken.left;
      room = taken.room;
      kept = λ sound told. taken.kept sound (here.kept (taken.sound sound) told);
      sound = λ sound. here.sound (taken.sound sound);
      same_files = taken.same_files ∙ here.same_files;
    }

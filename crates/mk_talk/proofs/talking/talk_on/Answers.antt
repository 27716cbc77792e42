use Rattle.std.proofs.Common.{◌∙◌}
use Rattle.mk_talk.proofs.TalkingLemmas.{piece_stops, read_none, talking_ends, talking_failed, talking_more}
use Rattle.mk_talk.proofs.talking.talk_on.Goals as goal

pub returns-in-Err-clause-goes_on : goal.returns-in-Err-clause-goes_on
returns-in-Err-clause-goes_on g c = talking_failed _ _ _ _ _ _ _ c.loop-count.invariant.talking _ c.in-Err.ensures.told

pub returns-in-Ok-eq0-clause-goes_on : goal.returns-in-Ok-eq0-clause-goes_on
returns-in-Ok-eq0-clause-goes_on g c =
    let here = c.loop-count.invariant in
    let ended = rw here.same_files at c.end_talk.ensures.ended in
    talking_ends _ _ _ _ _ _ _ here.talking _ _ _ c.end_talk.result (read_none _ _ _ c.read.new.buf c.in-Ok-eq0.field-0-test c.in-Ok-eq0.ensures.told) (rw c.as_slice.ensures.value at ended)

pub returns-in-Err-take_piece-clause-goes_on : goal.returns-in-Err-take_piece-clause-goes_on
returns-in-Err-take_piece-clause-goes_on g c =
    let here = c.loop-count.invariant in
    piece_stops _ _ _ _ _ _ _ here.talking _ _ _ _ c.in-Err-take_piece.status c.in-Ok.ensures.told (rw here.same_files at c.in-Err-take_piece.ensures.goes)

pub loop-count-preserved : goal.loop-count-preserved
loop-count-preserved g c =
    let here = c.loop-count.invariant in
    let taken = c.in_default.ensures in
    record {
      talking = talking_more _ _ _ _ _ _ _ here.talking _ _ _ _ _ c.in-Ok.ensures.told (rw here.same_files at taken.goes) taken.left;
      room = taken.room;
      kept = λ sound told. taken.kept sound (here.kept (taken.sound sound) told);
      sound = λ sound. here.sound (taken.sound sound);
      same_files = taken.same_files ∙ here.same_files;
    }

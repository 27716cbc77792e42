use Rattle.std.proofs.Common.{◌≡◌, ◌+◌, ◌-◌, arith, refl, length, take, drop, length-drop}
use Rattle.std.proofs.KnownBytes.{Keeps-refl}
use Rattle.mk_outside.proofs.StreamsLemmas.{fails_behind, left_all, writes_more, writes_kept}
use Rattle.mk_outside.proofs.streams.put_whole.Goals as goal
use Rattle.mk_outside.proofs.streams.put_whole.Goals.{in-Ok, in-Err+in-Interrupted}

pub returns-in-Ok-eq0 : goal.returns-in-Ok-eq0
returns-in-Ok-eq0 g c =
    fails_behind _ _ _ _ c.args.piece.now (c.loop.done + c.in-Ok-eq0.field-0)
    (writes_more _ _ _ c.args.piece.now c.loop.done c.in-Ok-eq0.field-0 c.loop.invariant.appended
    c.in-Ok-eq0.ensures.bytes) (Keeps-refl _)

pub returns-in_default : goal.returns-in_default
returns-in_default g c = fails_behind _ _ _ _ c.args.piece.now c.loop.done c.loop.invariant.appended c.in-Err.ensures.bytes

pub returns-in_default-2 : goal.returns-in_default-2
returns-in_default-2 g c = fails_behind _ _ _ _ c.args.piece.now c.loop.done c.loop.invariant.appended c.in-Err.ensures.bytes

pub loop-preserved : goal.loop-preserved
loop-preserved g c = elim c.match-write.branch [
  | in-Ok w ↦
      let left : length c.args.piece.now - c.loop.done ≡ length (take (length c.args.piece.now - c.loop.done) (drop c.loop.done c.args.piece.now)) = rw (left_all, length-drop) refl in
      rw w.done-is record {
        within = omega (arith, left, w.in-Ok.ensures.bound);
        appended = writes_more _ _ _ c.args.piece.now c.loop.done w.in-Ok.count c.loop.invariant.appended w.in-Ok.ensures.bytes;
      }
  | in-Err+in-Interrupted w ↦ rw w.done-is record {
    within = c.loop.invariant.within;
    appended = writes_kept _ _ _ _ c.loop.invariant.appended w.in-Err.ensures.bytes;
  }
]

pub returns : goal.returns
returns g c = fails_behind _ _ _ _ c.args.piece.now c.loop.done c.loop.invariant.appended (Keeps-refl _)

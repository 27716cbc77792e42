use Rattle.std.proofs.Common.{◌≡◌, ◌-◌, drop, length}
use Rattle.mk_text.specs.Lines.{lines_of}
use Rattle.mk_text.specs.LineStart.{IsLineStart}
use Rattle.mk_v3000.specs.Walk.{first_walk, IsFew}
use Rattle.mk_v3000.specs.Walking.{walk_part}
use Rattle.mk_v3000.proofs.v3000.body_from.Given as goal

abbrev pub invariant-loop-alloc : goal.invariant-loop-alloc
invariant-loop-alloc l = record {
  start : IsLineStart l.text l.at;
  few : IsFew l.walk;
  left : (walk_part first_walk).read (drop l.fn.from.line (lines_of l.text)) ≡ (walk_part l.walk).read
      (drop l.at.line (lines_of l.text));
}

abbrev pub decreases-loop-alloc : goal.decreases-loop-alloc
decreases-loop-alloc l = length (lines_of l.text) - l.at.line

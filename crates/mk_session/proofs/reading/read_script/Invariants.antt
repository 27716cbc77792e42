use Rattle.std.proofs.Common.{◌≡◌, ◌≤◌, ◌-◌, length, vec_len}
use Rattle.std.specs.Io.KnownBytes.{Consumes}
use Rattle.mk_session.proofs.reading.read_script.Given as goal

abbrev pub invariant-loop-chunk : goal.invariant-loop-chunk
invariant-loop-chunk g l = record {
  told : Consumes (g.S.Source.left l.initial.input) (g.S.Source.left l.input) l.text.items;
  size : length l.text.items ≡ vec_len l.text;
  few : length l.text.items ≤ 16781312;
  room : length l.chunk ≡ 4096;
  count : g.S.Source.faults l.input ≡ g.S.Source.faults l.initial.input;
}

abbrev pub decreases-loop-chunk : goal.decreases-loop-chunk
decreases-loop-chunk g l = 16777217 - vec_len l.text

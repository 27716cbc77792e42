use Rattle.std.proofs.Common.{◌≡◌, ◌+◌}
use Rattle.mk_text.specs.LineStart.{IsLineStart}
use Rattle.mk_sdfile.proofs.molecule_file.headers_from.Given as goal

abbrev pub invariant-loop-i : goal.invariant-loop-i
invariant-loop-i l = record { start : IsLineStart l.text l.at; past : l.at.line ≡ l.fn.from.line + l.i }

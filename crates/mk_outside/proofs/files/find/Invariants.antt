use Rattle.std.proofs.Common.{◌≡◌, drop}
use Rattle.mk_outside.specs.Files.{file_named}
use Rattle.mk_outside.proofs.files.find.Given as goal

abbrev pub invariant-loop-row : goal.invariant-loop-row
invariant-loop-row l = file_named (drop l.row-index l.rows) l.name ≡ file_named l.rows l.name

use Rattle.std.proofs.Common.{arith}
use Rattle.mk_text.specs.Lines.{lines_of}
use Rattle.mk_text.proofs.ForCallers.{lines_few}
use Rattle.mk_library.proofs.FileLemmas.{records_few}
use Rattle.mk_library.proofs.molecules.records_of.Goals as goal

pub returns-in-Ok-clause-fewer : goal.returns-in-Ok-clause-fewer
returns-in-Ok-clause-fewer c = λ k d below.
    let few = c.in-Ok.ensures.fewer k d below in
    omega (arith, c.if-text-gt-FILE_BYTES.false, lines_few c.args.text.now, few)

pub returns-in-Ok-clause-few : goal.returns-in-Ok-clause-few
returns-in-Ok-clause-few c =
    let few = records_few (lines_of c.args.text.now) c.in-Ok.records c.in-Ok.ensures.sdfile in
    omega (arith, c.if-text-gt-FILE_BYTES.false, lines_few c.args.text.now, few)

use Rattle.std.proofs.Common.{subst}
use Rattle.mk_text.specs.Lines.{lines_of}
use Rattle.mk_tables.specs.TableWalk.{AnswersAt}
use Rattle.mk_sdfile.proofs.MoleculeFileLemmas.{molecule_takes, molecule_stops, v3000_same}
use Rattle.mk_sdfile.proofs.molecule_file.molecule_from.Goals as goal

pub returns-in-Ok : goal.returns-in-Ok
returns-in-Ok c =
    let read = c.in-Ok in
    record { takes = molecule_takes (lines_of c.args.text.now) c.args.at.line read.next.line read.table read.ensures.takes; start = read.ensures.start }

pub returns-in-Err-Bad : goal.returns-in-Err-Bad
returns-in-Err-Bad c = molecule_stops (lines_of c.args.text.now) c.args.at.line c.in-Err-Bad.line (rw c.in-Err-Bad.field-0-is at c.in-Err-Bad.ensures)

pub returns-in-Err-V3000 : goal.returns-in-Err-V3000
returns-in-Err-V3000 c = subst (AnswersAt c.args.text.now c.v3000_molfile_from.result)
    (v3000_same (lines_of c.args.text.now) c.args.at.line _ (rw c.in-Err-V3000.field-0-is at c.in-Err-V3000.ensures))
    c.v3000_molfile_from.ensures

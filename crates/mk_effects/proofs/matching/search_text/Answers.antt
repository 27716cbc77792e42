use Rattle.std.proofs.Common.{ap}
use Rattle.mk_library.specs.declared.molecules.OneRecord.{OneRecord}
use Rattle.mk_library.specs.FirstRefusal.{FileDemands, IsFirstFileRefusal}
use Rattle.mk_found.specs.Effects.{Refuses}
use Rattle.mk_found.specs.MoleculeFiles.{MoleculesRefused}
use Rattle.mk_found.proofs.FileLineLemmas.{no_number, refused_first}
use Rattle.mk_effects.proofs.MatchLemmas.{lists_of_file}
use Rattle.mk_effects.proofs.matching.search_text.Goals as goal

pub file_line-requires : goal.file_line-requires
file_line-requires g c = no_number (FileDemands c.in-Some.text) c.in-Some.text OneRecord c.in-Err.said tt (rw c.as_slice.ensures at c.in-Err.ensures.refused)

pub returns-in-Err : goal.returns-in-Err
returns-in-Err g c = λ files name read.
    let line = c.in_ok-file_line-in-Err.ensures in
    MoleculesRefused c.in-Some.text (rw c.in-Some.is at read) c.in-Err.said
    (refused_first OneRecord (IsFirstFileRefusal c.in-Some.text) c.in-Err.said _ line (rw c.as_slice.ensures at c.in-Err.ensures.refused)) _ line (ap Refuses c.of-in-Err.ensures)

pub returns : goal.returns
returns g c = λ files name read.
    let text = c.in-Some.text in
    lists_of_file c.args.wanted.now files name text c.list_keys.result (rw c.in-Some.is at read) (c.list_keys.ensures text (rw c.as_slice.ensures at c.in-Ok.ensures.molecule))

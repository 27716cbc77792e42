use Rattle.std.proofs.Common.{◌∙◌, ap, length, sym}
use Rattle.mk_library.specs.Edits.{Load}
use Rattle.mk_library.specs.FirstRefusal.{EditDemands, IsFirstRefusal}
use Rattle.mk_library.specs.Pending.{PendingView}
use Rattle.mk_found.specs.Effects.{Answers, Refuses}
use Rattle.mk_found.specs.MoleculeFiles.{GoesByMolecules, MoleculesRefused}
use Rattle.mk_found.proofs.FileLineLemmas.{no_number, refused_first}
use Rattle.mk_edits.proofs.loading.load_text.Goals as goal

pub file_line-requires : goal.file_line-requires
file_line-requires c =
    no_number (EditDemands c.args.library.now.records c.args.library.now.next_record (Load c.in-Some.text))
    c.in-Some.text PendingView c.in-Err.said tt (rw c.as_slice.ensures at c.in-Err.ensures.refused)

pub returns-in-Err-clause-comes : goal.returns-in-Err-clause-comes
returns-in-Err-clause-comes c = λ files name read.
    let records = c.args.library.now.records in
    let next = c.args.library.now.next_record in
    let line = c.in_ok-file_line-in-Err.ensures in
    MoleculesRefused c.in-Some.text (rw c.in-Some.is at read) c.in-Err.said
    (refused_first PendingView (IsFirstRefusal records next (Load c.in-Some.text)) c.in-Err.said _ line (rw c.as_slice.ensures at c.in-Err.ensures.refused)) _ line (ap Refuses c.of-in-Err.ensures)

pub returns-clause-comes : goal.returns-clause-comes
returns-clause-comes c = λ files name read.
    let pending = c.in-Ok.pending in
    let count = ap length c.changes.ensures.list in
    GoesByMolecules c.in-Some.text (rw c.in-Some.is at read) (record {
      changes = pending.changes;
      allowed = rw c.as_slice.ensures at c.in-Ok.ensures.changes;
      answered = ap (Answers pending.changes)
          (c.of-in-Ok.ensures ∙ (rw (c.next_number.ensures, c.load.ensures.same.next_record) at (c.in_ok-answer-in-Ok.ensures pending.changes (sym count))));
    })

use Rattle.std.proofs.Common.{[], List, drop, sym, ap, ◌∙◌}
use Rattle.mk_form.specs.Reading.{Reading, Took}
use Rattle.mk_text.specs.Lines.{lines_of}
use Rattle.mk_tables.specs.TableLines.{Line}
use Rattle.mk_sdfile.specs.declared.raw_record.RawRecord.{RawRecord}
use Rattle.mk_sdfile.specs.SdfileReading.{farther_fault}
use Rattle.mk_sdfile.specs.SdfileSteps.{TakesBlock}
use Rattle.mk_sdfile.proofs.SdfileStepsLemmas.{none_first, file_blank, file_last, file_next, file_fails, all_read, last_read, next_read, fault_read}
use Rattle.mk_sdfile.proofs.sdfile.records_from.Goals as goal

pub loop-first-preserved : goal.loop-first-preserved
loop-first-preserved c =
    let lines = lines_of c.args.text.now in
    let at = c.loop-first.at.line in
    let block : TakesBlock c.args.text.now at c.in-Ok.record c.in-Some-next.behind = rw c.in-Some-next.is at c.in-Ok.ensures in
    record {
      start = block.start;
      so_far = rw c.in_ok-push-in-Ok.ensures.items (next_read lines
          c.loop-first.records.items at c.loop-first.invariant.so_far c.in-Some-next.behind.line c.in-Ok.record
          (file_next lines at c.in-Some.first c.in-Some.ensures c.in-Some-next.behind.line c.in-Ok.record
          (block.not_blank c.in-Some.first c.in-Some.ensures) block.took));
    }

pub returns-in-None : goal.returns-in-None
returns-in-None c =
    let lines = lines_of c.args.text.now in
    let at = c.loop-first.at.line in
    let last = rw c.in-None.is at c.in-Ok.ensures in
    last_read lines c.loop-first.records.items at c.loop-first.invariant.so_far c.in-Ok.record (file_last lines at c.in-Some.first c.in-Some.ensures c.in-Ok.record last)
    ∙ ap (λ (x : List RawRecord). let w : Reading Line (List RawRecord) = Took x [] in w) (sym (c.of.ensures ∙ c.in_ok-push-in-Ok.ensures.items))

pub returns-in-Err : goal.returns-in-Err
returns-in-Err c =
    let lines = lines_of c.args.text.now in
    let at = c.loop-first.at.line in
    let inside = c.loop-first.invariant.start.counted in
    rw c.farther.ensures (fault_read lines c.loop-first.records.items at c.loop-first.invariant.so_far
    (farther_fault c.in-Some.first c.in-Err.fault) (file_fails lines at c.in-Some.first c.in-Some.ensures
    c.in-Err.fault inside c.in-Err.ensures))

pub returns : goal.returns
returns c =
    let lines = lines_of c.args.text.now in
    let at = c.loop-first.at.line in
    all_read lines c.loop-first.records.items at c.loop-first.invariant.so_far
    (file_blank (drop at lines) (none_first lines at c.first_not_blank.result c.first_not_blank.ensures
    c.in_default.not-Some))
    ∙ ap (λ (x : List RawRecord). let w : Reading Line (List RawRecord) = Took x [] in w) (sym c.of-2.ensures)

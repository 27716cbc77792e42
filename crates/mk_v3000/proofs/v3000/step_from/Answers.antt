use Rattle.std.proofs.Common.{◌≡◌, rules, sym}
use Rattle.std.proofs.lemmas.Result.{err_from_is_err_and}
use Rattle.mk_text.specs.Lines.{lines_of, words_of}
use Rattle.mk_v3000.proofs.FewLemmas.{step_few}
use Rattle.mk_v3000.proofs.ReaderLemmas.{step_fails, step_read, step_stops}
use Rattle.mk_v3000.proofs.v3000.step_from.Goals as goal

pub returns-in-Ok-clause-value : goal.returns-in-Ok-clause-value
returns-in-Ok-clause-value c =
    let lines = lines_of c.args.text.now in
    let read = c.in-Some in
    record {
      takes = step_read c.args.walk lines c.args.at.line read.next.line read.words.now c.requires.start.counted read.ensures.value.takes c.in-Ok.taken c.in-Ok.ensures;
      start = read.ensures.value.start;
    }

pub returns-in-Ok-clause-few : goal.returns-in-Ok-clause-few
returns-in-Ok-clause-few c = step_few c.args.walk (words_of c.in-Some.words.now) c.in-Ok.taken c.requires.few c.in-Ok.ensures

pub returns-in-Err-Bad-clause-value : goal.returns-in-Err-Bad-clause-value
returns-in-Err-Bad-clause-value c =
    let lines = lines_of c.args.text.now in
    let read = c.in-Some in
    rw (sym read.ensures.next)
    (step_stops c.args.walk lines c.args.at.line read.next.line read.words.now c.requires.start.counted read.ensures.value.takes (rw c.in-Err-Bad.field-0-is at c.in-Err-Bad.ensures))

pub returns-in_err-joint-clause-value : goal.returns-in_err-joint-clause-value
returns-in_err-joint-clause-value c =
    let lines = lines_of c.args.text.now in
    let fault = err_from_is_err_and c.from_residual.result c.from_residual.ensures.1 in
    rw (fault.1, fault.2) (step_fails c.args.walk lines c.args.at.line c.in_err-joint.field-0.0 c.in_err-joint.ensures.value)

pub returns-in-Ok-take-clause-value : goal.returns-in-Ok-take-clause-value
returns-in-Ok-take-clause-value c =
    let lines = lines_of c.args.text.now in
    let read = c.in_ok-joint in
    let same : c.as_slice.result.now ≡ read.joint = search rules in
    record {
      takes = step_read c.args.walk lines c.args.at.line read.next.line read.joint c.requires.start.counted read.ensures.value.takes c.in-Ok-take.taken (rw same at c.in-Ok-take.ensures);
      start = read.ensures.value.start;
    }

pub returns-in-Ok-take-clause-few : goal.returns-in-Ok-take-clause-few
returns-in-Ok-take-clause-few c = step_few c.args.walk (words_of c.as_slice.result.now) c.in-Ok-take.taken c.requires.few c.in-Ok-take.ensures

pub returns-in-Err-Bad-take-clause-value : goal.returns-in-Err-Bad-take-clause-value
returns-in-Err-Bad-take-clause-value c =
    let lines = lines_of c.args.text.now in
    let read = c.in_ok-joint in
    let same : c.as_slice.result.now ≡ read.joint = search rules in
    step_stops c.args.walk lines c.args.at.line read.next.line read.joint c.requires.start.counted read.ensures.value.takes (rw (same, c.in-Err-Bad-take.field-0-is) at c.in-Err-Bad-take.ensures)

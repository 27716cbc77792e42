use Rattle.std.proofs.Common.{sym, ◌∙◌}
use Rattle.std.proofs.lemmas.Result.{err_from_is_err_and}
use Rattle.mk_text.specs.Lines.{lines_of}
use Rattle.mk_v3000.proofs.ReaderLemmas.{walk_more, walk_fails, walk_ends}
use Rattle.mk_v3000.proofs.v3000.body_from.Goals as goal

pub loop-alloc-preserved : goal.loop-alloc-preserved
loop-alloc-preserved c =
    let lines = lines_of c.args.text.now in
    let taken = c.in_ok-taken in
    record {
      start = taken.ensures.value.start;
      few = taken.ensures.few;
      left = walk_more lines c.args.from.line c.loop-alloc.at.line c.loop-alloc.walk c.loop-alloc.invariant.left
          taken.next.line taken.taken (sym c.is_done.ensures ∙ c.loop-alloc-test.true) taken.ensures.value.takes;
    }

pub returns-in_err-taken : goal.returns-in_err-taken
returns-in_err-taken c =
    let lines = lines_of c.args.text.now in
    let fault = err_from_is_err_and c.from_residual.result c.from_residual.ensures.1 in
    rw (fault.1, fault.2) (walk_fails lines c.args.from.line c.loop-alloc.at.line c.loop-alloc.walk
    c.loop-alloc.invariant.left c.in_err-taken.field-0.0 (sym c.is_done.ensures ∙ c.loop-alloc-test.true)
    c.in_err-taken.ensures.value)

pub returns : goal.returns
returns c =
    let lines = lines_of c.args.text.now in
    let start = c.loop-alloc.invariant.start in
    record {
      takes = walk_ends lines c.args.from.line c.loop-alloc.at.line c.loop-alloc.walk c.loop-alloc.invariant.left
          start.counted (sym c.is_done.ensures ∙ c.loop-alloc-test.false);
      start = start;
    }

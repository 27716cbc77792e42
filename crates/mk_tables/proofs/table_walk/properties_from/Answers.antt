use Rattle.std.proofs.Common.{Some, sym, ap, ◌∙◌}
use Rattle.mk_text.specs.Lines.{lines_of}
use Rattle.mk_props.specs.Reading.{property_of}
use Rattle.mk_tables.proofs.ReaderLemmas.{kept_by, properties_kept, properties_passed}
use Rattle.mk_tables.proofs.table_walk.properties_from.Goals as goal

pub loop-line-preserved-in-Passed : goal.loop-line-preserved-in-Passed
loop-line-preserved-in-Passed c =
    let lines = lines_of c.args.text.now in
    let is = sym (ap property_of c.in-Some.ensures.line) ∙ c.in_ok-property.ensures ∙ ap Some c.in-Passed.is in
    let past = c.in_ok-at-in-Passed.ensures.value in
    record {
      start = past.start;
      left = properties_passed lines c.args.from.line c.loop-line.props c.loop-line.at.line c.loop-line.invariant.left
          c.in-Some.ensures.there c.in-Passed.count c.in_ok-at-in-Passed.at.line is
          (rw c.in-Some.ensures.next at past.takes);
    }

pub loop-line-preserved : goal.loop-line-preserved
loop-line-preserved c =
    let lines = lines_of c.args.text.now in
    let property = c.in_ok-property.property in
    let is = sym (ap property_of c.in-Some.ensures.line) ∙ c.in_ok-property.ensures in
    record {
      start = c.in-Some.ensures.start;
      left = rw (c.in_ok-push-in_default-2.ensures.ok, c.in-Some.ensures.next)
          (properties_kept lines c.args.from.line c.loop-line.props c.loop-line.at.line c.loop-line.invariant.left
          c.in-Some.ensures.there property is (kept_by property c.in_default-2.not-Passed c.in_default-2.not-End));
    }

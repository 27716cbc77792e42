use Rattle.mk_text.specs.Lines.{ended}
use Rattle.mk_spelling.specs.TableSpelling.{property_line}
use Rattle.mk_spelling.proofs.AppendLemmas.{all_written, one_more}
use Rattle.mk_spelling.proofs.writing.put_properties.Goals as goal

pub loop-property-preserved : goal.loop-property-preserved
loop-property-preserved c =
    one_more (λ property. ended (property_line property)) c.args.properties.now c.loop-property.property-index c.property-item.result
    c.args.out.now.items c.loop-property.out.items c.put_property.new.out.items c.loop-property-test.true c.property-item.is c.loop-property.invariant c.in_ok-put_property.ensures

pub returns : goal.returns
returns c =
    all_written (λ property. ended (property_line property)) c.args.properties.now c.loop-property.property-index c.args.out.now.items c.loop-property.out.items
    c.loop-property-test.false c.loop-property.invariant

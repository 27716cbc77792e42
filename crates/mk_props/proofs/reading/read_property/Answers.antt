use Rattle.std.proofs.Common.{rules, Err}
use Rattle.mk_props.specs.declared.fault.LineFault.TheVariants.{Bad}
use Rattle.mk_props.specs.Reading.{Gives, property_of}
use Rattle.mk_props.proofs.PropertyLemmas.{read_is_property, bad_is_none}
use Rattle.mk_props.proofs.reading.read_property.Goals as goal

pub returns-then-not-is_blank_at-clause-bad : goal.returns-then-not-is_blank_at-clause-bad
unfolding property_of
returns-then-not-is_blank_at-clause-bad c =
    let value : Gives (Err Bad) (property_of c.args.line.now) = search rules in
    bad_is_none c.args.line.now (Err Bad) value

pub returns-clause-property : goal.returns-clause-property
unfolding property_of
returns-clause-property c =
    let value : Gives c.letter_line.result (property_of c.args.line.now) = search rules in
    read_is_property c.args.line.now c.letter_line.result value

pub returns-clause-bad : goal.returns-clause-bad
unfolding property_of
returns-clause-bad c =
    let value : Gives c.letter_line.result (property_of c.args.line.now) = search rules in
    bad_is_none c.args.line.now c.letter_line.result value

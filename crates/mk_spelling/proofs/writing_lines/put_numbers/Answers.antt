use Rattle.std.proofs.Common.{get_or}
use Rattle.std.proofs.lemmas.List.{get_or_default}
use Rattle.std.proofs.lemmas.List.Elements.{All-get_or}
use Rattle.std.specs.Prelude.{pos}
use Rattle.mk_spelling.specs.TableSpelling.{FitsThree, spaced}
use Rattle.mk_spelling.proofs.AppendLemmas.{all_written, as_spaced, one_more}
use Rattle.mk_spelling.proofs.writing_lines.put_numbers.Goals as goal

pub loop-number-preserved : goal.loop-number-preserved
loop-number-preserved c =
    let numbers = c.args.numbers.now in
    let i = c.loop-number.number-index in
    let number = get_or numbers i (pos 0) in
    let written = as_spaced c.loop-number.out.items c.put_spaced.new.out.items number (All-get_or FitsThree numbers i (pos 0) c.loop-number-test.true c.requires) c.in_ok-put_spaced.ensures in
    one_more spaced numbers i number c.args.out.now.items c.loop-number.out.items c.put_spaced.new.out.items c.loop-number-test.true (get_or_default numbers i (pos 0) number c.loop-number-test.true)
    c.loop-number.invariant written

pub returns : goal.returns
returns c = all_written spaced c.args.numbers.now c.loop-number.number-index c.args.out.now.items c.loop-number.out.items c.loop-number-test.false c.loop-number.invariant

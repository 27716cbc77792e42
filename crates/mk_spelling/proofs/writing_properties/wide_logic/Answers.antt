use Rattle.std.proofs.Common.{◌++◌, codes}
use Rattle.mk_spelling.specs.TableSpelling.{spaced}
use Rattle.mk_spelling.proofs.AppendLemmas.{as_spaced, two_texts, four_texts, as_text, begun}
use Rattle.mk_spelling.proofs.writing_properties.wide_logic.Goals as goal

pub returns : goal.returns
returns c =
    let old = c.in_ok-line.line.items in
    let one = c.put_spaced.new.out.items in
    let two = c.put_spaced-2.new.out.items in
    let three = c.put_spaced-3.new.out.items in
    let apart = c.extend_from_slice.new.self.items in
    let last = c.extend_from_slice-2.new.self.items in
    let group = spaced c.args.logic.now.group in
    let then_group = spaced c.args.logic.now.then_group in
    let rest = spaced c.args.logic.now.rest in
    let range = c.args.logic.now.range in
    begun old last (codes "M  LOG  1") (group ++ (then_group ++ (rest ++ (codes " " ++ range)))) c.in_ok-line.ensures.items
    (two_texts old one last group (then_group ++ (rest ++ (codes " " ++ range))) (as_spaced old one c.args.logic.now.group c.requires.group c.in_ok-put_spaced.ensures)
    (four_texts one two three apart last then_group rest (codes " ") range
    (as_spaced one two c.args.logic.now.then_group c.requires.then_group c.in_ok-put_spaced-2.ensures)
    (as_spaced two three c.args.logic.now.rest c.requires.rest c.in_ok-put_spaced-3.ensures)
    c.in_ok-extend_from_slice.ensures.items
    (as_text apart last c.as_slice.result.now range c.as_slice.ensures c.in_ok-extend_from_slice-2.ensures.items)))

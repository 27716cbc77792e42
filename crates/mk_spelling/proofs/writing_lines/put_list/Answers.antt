use Rattle.std.proofs.Common.{◌++◌, List, length, decimal, codes, ap}
use Rattle.std.specs.Prelude.{ℤ}
use Rattle.std.specs.List.{flat_map}
use Rattle.mk_props.specs.Lists.{flag_text}
use Rattle.mk_spelling.specs.TableSpelling.{three, spaced, numbers_line}
use Rattle.mk_spelling.proofs.AppendLemmas.{as_three, three_texts, four_texts, as_text, ended_last}
use Rattle.mk_spelling.proofs.writing_lines.put_list.Goals as goal

pub returns : goal.returns
unfolding numbers_line
returns c =
    let old = c.args.out.now.items in
    let named = c.put_three.new.out.items in
    let parted = c.extend_from_slice.new.self.items in
    let flagged = c.put_flag.new.out.items in
    let spread = c.extend_from_slice-2.new.self.items in
    let counted = c.put_number.new.out.items in
    let last = c.put_numbers.new.out.items in
    let numbers = c.args.list.now.numbers in
    let atom = three c.args.list.now.atom in
    let flag = flag_text c.args.list.now.not in
    let others = codes "    " ++ (decimal (length numbers) ++ flat_map spaced numbers) in
    let same = c.as_slice-numbers.ensures in
    ended_last c.extend_from_slice-3.result old last c.extend_from_slice-3.new.self.items (atom ++ (codes " " ++ (flag ++ others))) c.extend_from_slice-3.ensures.items
    (four_texts old named parted flagged last atom (codes " ") flag others
    (as_three old named c.args.list.now.atom c.requires.atom c.in_ok-put_three.ensures)
    c.in_ok-extend_from_slice.ensures.items c.in_ok-put_flag.ensures
    (three_texts flagged spread counted last (codes "    ") (decimal (length numbers)) (flat_map spaced numbers) c.in_ok-extend_from_slice-2.ensures.items
    (as_text spread counted (decimal (length c.as_slice-numbers.result.now)) (decimal (length numbers)) (ap (λ (xs : List ℤ). decimal (length xs)) same) c.in_ok-put_number.ensures.ok)
    (as_text counted last (flat_map spaced c.as_slice-numbers.result.now) (flat_map spaced numbers) (ap (flat_map spaced) same) c.in_ok-put_numbers.ensures)))

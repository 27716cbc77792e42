use Rattle.std.proofs.Common.{◌++◌, List, codes, ap}
use Rattle.mk_spelling.specs.TableSpelling.{count_text, counts_line}
use Rattle.mk_tables.specs.declared.raw.RawAtom.{RawAtom}
use Rattle.mk_tables.specs.declared.raw.RawBond.{RawBond}
use Rattle.mk_tables.specs.declared.raw.RawList.{RawList}
use Rattle.mk_spelling.proofs.AppendLemmas.{four_texts, as_text, ended_last}
use Rattle.mk_spelling.proofs.writing_lines.put_counts.Goals as goal

pub returns : goal.returns
unfolding counts_line
returns c =
    let old = c.args.out.now.items in
    let first = c.put_count.new.out.items in
    let second = c.put_count-2.new.out.items in
    let third = c.put_count-3.new.out.items in
    let last = c.extend_from_slice.new.self.items in
    let atoms = count_text c.args.table.now.atoms in
    let bonds = count_text c.args.table.now.bonds in
    let lists = count_text c.args.table.now.lists in
    let tail = codes "  0  0  0            999 V2000" in
    ended_last c.extend_from_slice-2.result old last c.extend_from_slice-2.new.self.items (atoms ++ (bonds ++ (lists ++ tail))) c.extend_from_slice-2.ensures.items
    (four_texts old first second third last atoms bonds lists tail
    (as_text old first (count_text c.as_slice.result.now) atoms (ap (λ (xs : List RawAtom). count_text xs) c.as_slice.ensures) c.in_ok-put_count.ensures)
    (as_text first second (count_text c.as_slice-2.result.now) bonds (ap (λ (xs : List RawBond). count_text xs) c.as_slice-2.ensures) c.in_ok-put_count-2.ensures)
    (as_text second third (count_text c.as_slice-3.result.now) lists (ap (λ (xs : List RawList). count_text xs) c.as_slice-3.ensures) c.in_ok-put_count-3.ensures)
    c.in_ok-extend_from_slice.ensures.items)

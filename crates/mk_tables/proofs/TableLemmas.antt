-- Tables are read exactly, and so the laws of forms hold of them.
use Rattle.std.proofs.Common.{◌≡◌, ℕ, ◌*◌, Bool, true, false, eqb, not, ◌&&◌, ◌||◌, Option, Some, None, List, [], ◌∷◌, ◌++◌, length, refl, sym, ap, subst, ◌∙◌, inl}
use Rattle.std.specs.Prelude.{codes, pos, bytes_eq}
use Rattle.std.proofs.lemmas.Slice.Eq.{bytes_eq-Decides}
use Rattle.mk_form.specs.Exact.{Exact, Completes, NeverDue, Anything}
use Rattle.mk_form.specs.Lines.{counts_line}
use Rattle.mk_form.proofs.Fronts.{exact-form, completes-line, completes-counts_line, completes-sequence, completes-seen_as, completes-rows, completes-any_lines}
use Rattle.mk_form.proofs.Lines.{exact-line, exact-counts_line, passes, does_pass}
use Rattle.mk_form.proofs.NeverDue.{due_in_first, never-line, never-sequence, never-seen_as, never-rows, never-any_lines}
use Rattle.mk_form.proofs.Rows.{exact-rows, exact-any_lines}
use Rattle.mk_form.proofs.Seen.{exact-seen_as}
use Rattle.mk_form.proofs.Sequence.{exact-sequence}
use Rattle.mk_text.specs.Columns.{columns}
use Rattle.mk_text.specs.Fields.{field_of, digits_number}
use Rattle.mk_text.specs.Options.{when}
use Rattle.mk_tables.specs.declared.raw.RawAtom.{RawAtom}
use Rattle.mk_tables.specs.declared.raw.RawTable.{RawTable}
use Rattle.mk_tables.specs.declared.table_lines.CountsLine.{CountsLine}
use Rattle.mk_tables.specs.TableLines.{Line, word_of, natural_of, is_v3000, is_v2000_or_none, counts_of, atom_numbers_of, raw_atom_of, raw_bond_of, list_flag_of, list_count_of, list_numbers_of, list_of}
use Rattle.mk_tables.specs.Table.{IsTable}
use Rattle.mk_tables.specs.TableLaws.{table_form}
use Rattle.mk_tables.specs.TableReading.{is_end_line, table_with, after_counts, table_part, table_at}
use Rattle.mk_tables.proofs.BlockLemmas.{exact-properties, never-properties, completes-properties, to_blocks, from_blocks, end_found, end_given}

-- ---- a line that says V3000 is no counts line

-- V3000 is neither V2000 nor nothing
not_both : (word : List ℕ) → word ≡ codes "V3000" → ((eqb (length word) 0) || bytes_eq word (codes "V2000")) ≡ false
not_both word e = rw e refl

-- where the second of two tests fails, nothing is read
when_false : {X : Type 0} (a b : Bool) (x : Option X) → b ≡ false → when (a && b) x ≡ None
when_false true b x e = rw e refl
when_false false b x e = refl

-- so such a line holds no counts
v3000_counts_none : (l : Line) → is_v3000 l ≡ true → counts_of l ≡ None
unfolding counts_of
v3000_counts_none l h =
    when_false (not (eqb (length (word_of l 1 3)) 0)) (is_v2000_or_none l) _ (not_both (word_of l 34 39) ((bytes_eq-Decides (word_of l 34 39) (codes "V3000")).0 h))

-- ---- the parts, in the order of the definition

-- a table is read exactly
exact-table_part : Exact is_v3000 Anything table_part
exact-table_part =
    exact-sequence (exact-counts_line is_v3000 counts_of v3000_counts_none) (λ n.
    exact-sequence (exact-rows n.atoms (exact-line raw_atom_of)) (λ atoms.
    exact-sequence (exact-rows n.bonds (exact-line raw_bond_of)) (λ bonds.
    exact-sequence (exact-rows n.lists (exact-line list_of)) (λ lists.
    exact-sequence (exact-any_lines (2 * n.stext)) (λ _.
    exact-seen_as (table_with atoms bonds lists) exact-properties)))))

-- behind the counts line no line is named
never-after_counts : (n : CountsLine) → NeverDue (after_counts n)
never-after_counts n =
    never-sequence (never-rows n.atoms (never-line raw_atom_of)) (λ atoms.
    never-sequence (never-rows n.bonds (never-line raw_bond_of)) (λ bonds.
    never-sequence (never-rows n.lists (never-line list_of)) (λ lists.
    never-sequence (never-any_lines (2 * n.stext)) (λ _.
    never-seen_as (table_with atoms bonds lists) never-properties))))

-- a counts line, an atom line, a bond line and an atom-list line that read
abbrev no_counts : CountsLine
no_counts = record { atoms = 0; bonds = 0; lists = 0; stext = 0 }

abbrev one_atom : RawAtom
one_atom = record { symbol = []; charge = pos 0; hydrogens = pos 0; valence = pos 0 }

some_counts : counts_of (codes "  0") ≡ Some no_counts
unfolding counts_of natural_of field_of digits_number columns
some_counts = refl

some_atom : raw_atom_of [] ≡ Some one_atom
unfolding raw_atom_of atom_numbers_of field_of digits_number columns
some_atom = refl

some_bond : raw_bond_of [] ≡ Some (record { first = pos 0; second = pos 0; kind = pos 0; topology = pos 0 })
unfolding raw_bond_of field_of digits_number columns
some_bond = refl

some_list : list_of (codes "    T    1") ≡ Some (record { atom = pos 0; not = true; numbers = pos 0 ∷ [] })
unfolding list_of list_flag_of list_count_of list_numbers_of field_of digits_number columns
some_list = refl

-- the beginning of a table can be completed
completes-table_part : Completes table_part
completes-table_part =
    completes-sequence (completes-counts_line is_v3000 counts_of (codes "  0") no_counts some_counts) (λ n.
    completes-sequence (completes-rows n.atoms (completes-line raw_atom_of [] one_atom some_atom)) (λ atoms.
    completes-sequence (completes-rows n.bonds (completes-line raw_bond_of [] _ some_bond)) (λ bonds.
    completes-sequence (completes-rows n.lists (completes-line list_of (codes "    T    1") _ some_list)) (λ lists.
    completes-sequence (completes-any_lines [] (2 * n.stext)) (λ _.
    completes-seen_as (table_with atoms bonds lists) completes-properties)))))

-- ---- in the words of the definition

-- counts by their numbers
counts_are : (n : CountsLine) (a b l : ℕ) → a ≡ n.atoms → b ≡ n.bonds → l ≡ n.lists → (let m : CountsLine = record { atoms = a; bonds = b; lists = l; stext = n.stext } in m) ≡ n
counts_are n a b l e f g = rw (e, f, g) refl

-- what the parts make up is a table
to_table : (lines : List Line) (t : RawTable) → table_part.is lines t → IsTable lines t
to_table lines t h =
    let a = h.second in
    let b = a.second in
    let c = b.second in
    let d = c.second in
    let e = d.second in
    let p = e.is.is in
    let e_is : d.back ≡ p.front ++ p.last.line ∷ [] = p.whole ∙ ap (λ (x : List Line). p.front ++ x) p.last.whole in
    let d_is = d.whole ∙ ap (λ (x : List Line). d.front ++ x) e_is in
    let c_is = c.whole ∙ ap (λ (x : List Line). c.front ++ x) d_is in
    let b_is = b.whole ∙ ap (λ (x : List Line). b.front ++ x) c_is in
    let a_is = a.whole ∙ ap (λ (x : List Line). a.front ++ x) b_is in
    let made : IsTable lines (table_with a.middle b.middle c.middle e.first) = record {
      counts_line = h.first.line;
      atom_lines = a.front;
      bond_lines = b.front;
      list_lines = c.front;
      stext_lines = d.front;
      property_lines = p.front;
      last_line = p.last.line;
      whole = h.whole ∙ ap (λ (x : List Line). x ++ h.back) h.first.whole ∙ ap (λ (x : List Line). h.first.line ∷ x) a_is;
      stext = h.middle.stext;
      counted = h.first.spells ∙ ap Some (sym (counts_are h.middle (length a.middle) (length b.middle) (length c.middle) a.first.count b.first.count c.first.count));
      atoms = a.first.series;
      bonds = b.first.series;
      lists = c.first.series;
      two_each = d.first;
      properties = record { blocks = e.is.first.0; each = to_blocks p.front e.is.first.0 p.items; kept = e.is.seen };
      ended = end_found p.last.line (passes is_end_line p.last.line _ p.last.spells);
    } in
    subst (IsTable lines) (sym e.seen) made

-- and a table is made up of the parts
from_table : (lines : List Line) (t : RawTable) → IsTable lines t → table_part.is lines t
from_table lines t h =
    let p = h.properties in
    let end = h.property_lines ++ h.last_line ∷ [] in
    let stext = h.stext_lines ++ end in
    let lists = h.list_lines ++ stext in
    let bonds = h.bond_lines ++ lists in
    record {
      front = h.counts_line ∷ [];
      back = h.atom_lines ++ bonds;
      middle = record { atoms = length t.atoms; bonds = length t.bonds; lists = length t.lists; stext = h.stext };
      whole = h.whole;
      first = record { line = h.counts_line; whole = refl; spells = h.counted };
      second = record {
        front = h.atom_lines;
        back = bonds;
        middle = t.atoms;
        whole = refl;
        first = record { series = h.atoms; count = refl };
        second = record {
          front = h.bond_lines;
          back = lists;
          middle = t.bonds;
          whole = refl;
          first = record { series = h.bonds; count = refl };
          second = record {
            front = h.list_lines;
            back = stext;
            middle = t.lists;
            whole = refl;
            first = record { series = h.lists; count = refl };
            second = record {
              front = h.stext_lines;
              back = end;
              middle = tt;
              whole = refl;
              first = h.two_each;
              second = record {
                first = t.props;
                is = record {
                  first = (p.blocks, tt);
                  is = record {
                    front = h.property_lines;
                    back = h.last_line ∷ [];
                    whole = refl;
                    items = from_blocks h.property_lines p.blocks p.each;
                    last = record { line = h.last_line; whole = refl; spells = does_pass is_end_line h.last_line (end_given h.last_line h.ended) };
                  };
                  seen = p.kept;
                };
                seen = refl;
              };
            };
          };
        };
      };
    }

-- tables are read exactly
pub exact-table : Exact is_v3000 Anything table_form
unfolding table_at
exact-table =
    exact-form exact-table_part completes-table_part
    (record { is_to = to_table; is_from = from_table; due_to = due_in_first (counts_line is_v3000 counts_of) after_counts never-after_counts; due_from = λ lines d. inl d })

-- A table is read block by block: what is left to read behind each, and what a fault in it says of the whole.
use Rattle.std.proofs.Common.{◌≡◌, ℕ, ◌*◌, List, drop, refl, sym, subst, ◌∙◌}
use Rattle.mk_form.specs.Lines.{line, counts_line}
use Rattle.mk_form.specs.Reading.{Took, TakesLines}
use Rattle.mk_form.specs.Rows.{rows, any_lines}
use Rattle.mk_form.proofs.ByIndex.{takes_first}
use Rattle.mk_props.specs.declared.property.Property.{Property}
use Rattle.mk_tables.specs.declared.fault.TableFault.{TableFault}
use Rattle.mk_tables.specs.declared.raw.RawAtom.{RawAtom}
use Rattle.mk_tables.specs.declared.raw.RawBond.{RawBond}
use Rattle.mk_tables.specs.declared.raw.RawList.{RawList}
use Rattle.mk_tables.specs.declared.table_lines.CountsLine.{CountsLine}
use Rattle.mk_tables.specs.TableLines.{Line, is_v3000, counts_of, raw_atom_of, raw_bond_of, list_of}
use Rattle.mk_tables.specs.TableReading.{Fails, properties_part, table_with, after_stext, after_lists, after_bonds, after_atoms, after_counts, table_part, table_at}
use Rattle.mk_tables.proofs.FaultLemmas.{fails_first, block_read}

-- from the first line on the whole table is to be read
pub whole_left : (lines : List Line) → table_at lines ≡ table_part.read lines
unfolding table_at
whole_left lines = refl

-- the blocks of a table, from the line of index `at` on
module _ (lines : List Line) (at : ℕ) {first : ℕ} (n : CountsLine) (counted : TakesLines lines first n ((counts_line is_v3000 counts_of).read (drop at lines))) where
  abbrev from : List Line
  from = drop at lines

  -- behind the counts line
  pub atoms_left : table_at from ≡ (after_counts n).read (drop first lines)
  atoms_left = block_read (counts_line is_v3000 counts_of) after_counts lines at (whole_left from) first n counted

  module _ (atoms : List RawAtom) (i : ℕ) (atoms_read : TakesLines lines i atoms ((rows n.atoms (line raw_atom_of)).read (drop first lines))) where
    -- behind the atom lines
    pub bonds_left : table_at from ≡ (after_atoms n atoms).read (drop i lines)
    bonds_left = block_read (rows n.atoms (line raw_atom_of)) (after_atoms n) lines first atoms_left i atoms atoms_read

    module _ (bonds : List RawBond) (j : ℕ) (bonds_read : TakesLines lines j bonds ((rows n.bonds (line raw_bond_of)).read (drop i lines))) where
      -- behind the bond lines
      pub lists_left : table_at from ≡ (after_bonds n atoms bonds).read (drop j lines)
      lists_left = block_read (rows n.bonds (line raw_bond_of)) (after_bonds n atoms) lines i bonds_left j bonds bonds_read

      module _ (lists : List RawList) (k : ℕ) (lists_read : TakesLines lines k lists ((rows n.lists (line list_of)).read (drop j lines))) where
        -- behind the atom-list lines
        pub stext_left : table_at from ≡ (after_lists n atoms bonds lists).read (drop k lines)
        stext_left = block_read (rows n.lists (line list_of)) (after_lists n atoms bonds) lines j lists_left k lists lists_read

        module _ (l : ℕ) (stext_read : TakesLines lines l tt ((any_lines (2 * n.stext)).read (drop k lines))) where
          -- behind the stext lines
          pub properties_left : table_at from ≡ (after_stext atoms bonds lists).read (drop l lines)
          properties_left = block_read (any_lines (2 * n.stext)) (λ _. after_stext atoms bonds lists) lines k stext_left l tt stext_read

          -- where the property lines fail, the table does
          pub properties_fail_table : (e : TableFault) → Fails lines e (properties_part.read (drop l lines)) → Fails lines e (table_at from)
          properties_fail_table e h = subst (Fails lines e) (sym properties_left) (fails_first lines e (properties_part.read (drop l lines)) (λ props. Took (table_with atoms bonds lists props)) h)

          -- where they are read, the table is
          pub table_read : (props : List Property) (next : ℕ)
              → TakesLines lines next props (properties_part.read (drop l lines))
              → TakesLines lines next (table_with atoms bonds lists props) (table_at from)
          table_read props next h = record {
            within = h.within;
            took = properties_left
                ∙ takes_first lines next props (properties_part.read (drop l lines))
                (λ props. Took (table_with atoms bonds lists props)) h;
          }

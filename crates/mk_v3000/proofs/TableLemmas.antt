-- What the parts make up is a V3000 table, and the other way round.
use Rattle.std.proofs.Common.{◌≡◌, ℕ, zero, suc, ◌+◌, ◌-◌, ◌≤◌, Bool, true, false, eqb, Option, Some, None, List, [], ◌∷◌, ◌++◌, map, length, refl, sym, ap, subst, ◌∙◌, append_assoc, append-nil, inl, inr, arith}
use Rattle.std.specs.Prelude.{codes, ◌⊎◌}
use Rattle.mk_form.specs.ToEnd.{EachIs}
use Rattle.mk_form.proofs.Lines.{passes, does_pass}
use Rattle.mk_text.specs.Options.{◌>>=◌, when}
use Rattle.mk_text.proofs.ForCallers.{both_read, test_passed}
use Rattle.mk_tables.specs.declared.raw.RawTable.{RawTable}
use Rattle.mk_tables.specs.TableLines.{Line, is_v3000}
use Rattle.mk_v3000.specs.declared.word_lines.PartCounts.{PartCounts}
use Rattle.mk_v3000.specs.declared.word_lines.AtomLine.{AtomLine}
use Rattle.mk_v3000.specs.declared.word_lines.BondLine.{BondLine}
use Rattle.mk_v3000.specs.declared.walk.Phase.TheVariants as phase
use Rattle.mk_v3000.specs.declared.walk.Walk.{Walk}
use Rattle.mk_v3000.specs.LogicalLines.{Word}
use Rattle.mk_v3000.specs.Twin.{twin_bond, indexes_of, twin_of}
use Rattle.mk_v3000.specs.V3000Table.{two, IsBondPart, HasNoBondPart, AreTable, IsV3000Table, ends_table, is_end_line}
use Rattle.mk_v3000.specs.Walk.{first_walk, moved, counted, behind_atoms, step_at}
use Rattle.mk_v3000.specs.Walking.{v3000_part}
use Rattle.mk_v3000.specs.WordLines.{is_pair, counts_of_words, atom_of, bond_of}
use Rattle.mk_v3000.proofs.RunLemmas.{Runs, zero_test, some_test, walks_to, walks_from, pair_is, after_atoms, after_atoms-bonds, after_atoms-indexes, after_atoms-table, after_bonds, after_bonds-table, joined_by, atoms_to, atoms_from, bonds_to, bonds_from, rest_to, rest_from}

-- ---- behind the atoms

-- where there are no bonds the others are due
none_due : (w : Walk) → w.bonds ≡ 0 → behind_atoms w ≡ moved phase.InRest w
none_due w n = rw (zero_test w.bonds n) refl

-- else the part of the bonds is
bonds_due : (k : ℕ) (w : Walk) → w.bonds ≡ suc k → behind_atoms w ≡ moved phase.AtBonds w
bonds_due k w n = rw (some_test w.bonds k n) refl

-- its first line
pub bonds_begin : (w : Walk) (words : List Word) (x : Walk) → step_at phase.AtBonds w words ≡ Some x → (is_pair words (codes "BEGIN") (codes "BOND") ≡ true) × (Some (moved phase.InBonds w) ≡ Some x)
unfolding step_at
bonds_begin w words x h = test_passed (is_pair words (codes "BEGIN") (codes "BOND")) (Some (moved phase.InBonds w)) x h

begin_bonds : (w : Walk) → step_at phase.AtBonds w (two (codes "BEGIN") (codes "BOND")) ≡ Some (moved phase.InBonds w)
unfolding step_at
begin_bonds w = refl

-- the lines behind the atoms
pub record TailRun (w : Walk) (lines : List (List Word)) (t : RawTable) : Type 0 where
  pub bonds : List BondLine
  pub bond_part : List (List Word)
  pub others : List (List Word)
  pub whole : lines ≡ bond_part ++ (others ++ two (codes "END") (codes "CTAB") ∷ [])
  pub count : length bonds ≡ w.bonds
  pub of_bonds : IsBondPart bond_part bonds ⊎ HasNoBondPart bond_part bonds
  pub passed : EachIs ends_table false others
  pub table : joined_by w.table (map (twin_bond w.indexes) bonds) ≡ t

pub tail_to : (k : ℕ) (w : Walk) (lines : List (List Word)) (t : RawTable) → w.bonds ≡ k → Runs (behind_atoms w) lines t → TailRun w lines t
tail_to zero w lines t n r =
    let rest = rest_to lines (moved phase.InRest w) t refl (subst (λ (x : Walk). Runs x lines t) (none_due w n) r) in
    record {
      bonds = [];
      bond_part = [];
      others = rest.others;
      whole = rest.whole;
      count = sym n;
      of_bonds = inr (record { no_lines = refl; no_bonds = refl });
      passed = rest.passed;
      table =
          sym (after_bonds-table [] w) ∙ rest.table;
    }
tail_to (suc k) w lines t n r = by_lines lines (subst (λ (x : Walk). Runs x lines t) (bonds_due k w n) r)
  where
    by_lines : (ls : List (List Word)) → Runs (moved phase.AtBonds w) ls t → TailRun w ls t
    by_lines [] r = absurd (let d = r.0 in cc)
    by_lines (words ∷ ls) r =
        let h = bonds_begin (moved phase.AtBonds w) words r.1 r.2 in
        let next : moved phase.InBonds w ≡ r.1 = (let i = h.1 in cc) in
        let more = bonds_to ls (suc k) (moved phase.InBonds w) t refl n (subst (λ (x : Walk). Runs x ls t) (sym next) r.3) in
        let rest = rest_to more.others (moved phase.InRest (after_bonds (moved phase.InBonds w) more.bonds)) t refl more.runs in
        let part = two (codes "BEGIN") (codes "BOND") ∷ (more.bond_lines ++ two (codes "END") (codes "BOND") ∷ []) in
        let behind = rest.others ++ two (codes "END") (codes "CTAB") ∷ [] in
        record {
          bonds = more.bonds;
          bond_part = part;
          others = rest.others;
          whole =
              ap (λ (x : List Word). x ∷ ls) (pair_is words (codes "BEGIN") (codes "BOND") h.0)
              ∙ ap (λ (x : List (List Word)). two (codes "BEGIN") (codes "BOND") ∷ x)
              (more.whole ∙ ap (λ (x : List (List Word)). more.bond_lines ++ two (codes "END") (codes "BOND") ∷ x)
              rest.whole ∙ sym (append_assoc more.bond_lines (two (codes "END") (codes "BOND") ∷ []) behind));
          count = more.count ∙ sym n;
          of_bonds = inl (record { bond_lines = more.bond_lines; whole = refl; each = more.each });
          passed = rest.passed;
          table = sym (after_bonds-table more.bonds (moved phase.InBonds w)) ∙ rest.table;
        }

-- no bonds have no lines
no_bond_lines : (lines : List (List Word)) → map bond_of lines ≡ [] → lines ≡ []
no_bond_lines [] e = refl
no_bond_lines (l ∷ lines) e = absurd cc

-- without bonds, the lines of their part are passed over with the others
tail_from_none : (w : Walk) (bond_part others : List (List Word)) (t : RawTable) → 0 ≡ w.bonds → IsBondPart bond_part []
    ⊎ HasNoBondPart bond_part [] → EachIs ends_table false others → joined_by w.table [] ≡ t
    → Runs (behind_atoms w) (bond_part ++ (others ++ two (codes "END") (codes "CTAB") ∷ [])) t
tail_from_none w bond_part others t n of_bonds passed is =
    let table : w.table ≡ t = after_bonds-table [] w ∙ is in
    subst (λ (x : Walk). Runs x (bond_part ++ (others ++ two (codes "END") (codes "CTAB") ∷ [])) t) (sym (none_due w (sym n))) (elim of_bonds [
      | inl h ↦
          let part : bond_part ≡ two (codes "BEGIN") (codes "BOND") ∷ two (codes "END") (codes "BOND") ∷ [] =
          h.whole ∙ ap (λ (x : List (List Word)). two (codes "BEGIN") (codes "BOND") ∷ (x ++ two (codes "END") (codes "BOND") ∷ [])) (no_bond_lines h.bond_lines h.each) in
          subst (λ (p : List (List Word)). Runs (moved phase.InRest w) (p ++ (others ++ two (codes "END") (codes "CTAB") ∷ [])) t) (sym part)
          (rest_from (two (codes "BEGIN") (codes "BOND") ∷ two (codes "END") (codes "BOND") ∷ others) (moved phase.InRest w) t refl (refl, (refl, passed)) table)
      | inr h ↦
          subst (λ (p : List (List Word)). Runs (moved phase.InRest w) (p ++ (others ++ two (codes "END") (codes "CTAB") ∷ [])) t) (sym h.no_lines)
          (rest_from others (moved phase.InRest w) t refl passed table)
    ])

-- with bonds, they stand in their part
tail_from_some : (w : Walk) (b : BondLine) (bonds : List BondLine) (bond_part others : List (List Word)) (t : RawTable)
    → suc (length bonds) ≡ w.bonds → IsBondPart bond_part (b ∷ bonds) ⊎ HasNoBondPart bond_part (b ∷ bonds)
    → EachIs ends_table false others
    → joined_by w.table (map (twin_bond w.indexes) (b ∷ bonds)) ≡ t → Runs (behind_atoms w) (bond_part ++ (others ++ two (codes "END") (codes "CTAB") ∷ [])) t
tail_from_some w b bonds bond_part others t n of_bonds passed is =
    let behind = others ++ two (codes "END") (codes "CTAB") ∷ [] in
    subst (λ (x : Walk). Runs x (bond_part ++ behind) t) (sym (bonds_due (length bonds) w (sym n))) (elim of_bonds [
      | inl h ↦
          let v = moved phase.InBonds w in
          let rest = rest_from others (moved phase.InRest (after_bonds v (b ∷ bonds))) t refl passed (after_bonds-table (b ∷ bonds) v ∙ is) in
          let run = bonds_from (b ∷ bonds) v h.bond_lines behind t refl (sym n) h.each rest in
          let whole : bond_part ++ behind ≡ two (codes "BEGIN") (codes "BOND") ∷ (h.bond_lines ++ two (codes "END") (codes "BOND") ∷ behind) =
          ap (λ (x : List (List Word)). x ++ behind) h.whole
          ∙ ap (λ (x : List (List Word)). two (codes "BEGIN") (codes "BOND") ∷ x)
          (append_assoc h.bond_lines (two (codes "END") (codes "BOND") ∷ []) behind) in
          subst (λ (p : List (List Word)). Runs (moved phase.AtBonds w) p t) (sym whole) (refl, v, begin_bonds (moved phase.AtBonds w), run)
      | inr h ↦ absurd (let e = h.no_bonds in cc)
    ])

pub tail_from : (w : Walk) (bonds : List BondLine) (bond_part others : List (List Word)) (t : RawTable)
    → length bonds ≡ w.bonds → IsBondPart bond_part bonds ⊎ HasNoBondPart bond_part bonds
    → EachIs ends_table false others
    → joined_by w.table (map (twin_bond w.indexes) bonds) ≡ t → Runs (behind_atoms w) (bond_part ++ (others ++ two (codes "END") (codes "CTAB") ∷ [])) t
tail_from w [] bond_part others t n of_bonds passed is = tail_from_none w bond_part others t n of_bonds passed is
tail_from w (b ∷ bonds) bond_part others t n of_bonds passed is = tail_from_some w b bonds bond_part others t n of_bonds passed is

-- ---- the first three lines

-- what is due there
pub table_begin : (w : Walk) (words : List Word) (x : Walk) → step_at phase.AtTable w words ≡ Some x → (is_pair words (codes "BEGIN") (codes "CTAB") ≡ true) × (Some (moved phase.AtCounts w) ≡ Some x)
unfolding step_at
table_begin w words x h = test_passed (is_pair words (codes "BEGIN") (codes "CTAB")) (Some (moved phase.AtCounts w)) x h

pub counts_read : (w : Walk) (words : List Word) (x : Walk) → step_at phase.AtCounts w words ≡ Some x → (n : PartCounts) × (counts_of_words words ≡ Some n) × (Some (counted n) ≡ Some x)
unfolding step_at
counts_read w words x h = both_read (counts_of_words words) (λ n. Some (counted n)) x h

pub atoms_begin : (w : Walk) (words : List Word) (x : Walk) → step_at phase.AtAtoms w words ≡ Some x → (is_pair words (codes "BEGIN") (codes "ATOM") ≡ true) × (Some (moved phase.InAtoms w) ≡ Some x)
unfolding step_at
atoms_begin w words x h = test_passed (is_pair words (codes "BEGIN") (codes "ATOM")) (Some (moved phase.InAtoms w)) x h

begin_table : (w : Walk) → step_at phase.AtTable w (two (codes "BEGIN") (codes "CTAB")) ≡ Some (moved phase.AtCounts w)
unfolding step_at
begin_table w = refl

read_counts : (w : Walk) (words : List Word) (n : PartCounts) → counts_of_words words ≡ Some n → step_at phase.AtCounts w words ≡ Some (counted n)
unfolding step_at
read_counts w words n e = rw e refl

begin_atoms : (w : Walk) → step_at phase.AtAtoms w (two (codes "BEGIN") (codes "ATOM")) ≡ Some (moved phase.InAtoms w)
unfolding step_at
begin_atoms w = refl

-- the atoms of so many are due
abbrev pub at_atoms : PartCounts → Walk
at_atoms n = moved phase.InAtoms (counted n)

-- the lines are these three, and others
pub record HeadRun (lines : List (List Word)) (t : RawTable) : Type 0 where
  pub counts_line : List Word
  pub counts : PartCounts
  pub others : List (List Word)
  pub whole : lines ≡ two (codes "BEGIN") (codes "CTAB") ∷ counts_line ∷ two (codes "BEGIN") (codes "ATOM") ∷ others
  pub counted_by : counts_of_words counts_line ≡ Some counts
  pub runs : Runs (at_atoms counts) others t

-- what was made is what was made
pub same_walk : (x y : Walk) → Some x ≡ Some y → x ≡ y
same_walk x y e = cc

-- the first line of the atoms, and others
pub record AtomsHead (n : PartCounts) (lines : List (List Word)) (t : RawTable) : Type 0 where
  pub others : List (List Word)
  pub whole : lines ≡ two (codes "BEGIN") (codes "ATOM") ∷ others
  pub runs : Runs (at_atoms n) others t

atoms_head : (n : PartCounts) (lines : List (List Word)) (t : RawTable) → Runs (counted n) lines t → AtomsHead n lines t
atoms_head n [] t r = absurd (let d = r.0 in cc)
atoms_head n (c ∷ others) t r =
    let h = atoms_begin (counted n) c r.1 r.2 in
    record {
      others = others;
      whole = ap (λ (x : List Word). x ∷ others) (pair_is c (codes "BEGIN") (codes "ATOM") h.0);
      runs = subst (λ (x : Walk). Runs x others t) (sym (same_walk (at_atoms n) r.1 h.1)) r.3;
    }

-- the counts, and others
pub record CountsHead (lines : List (List Word)) (t : RawTable) : Type 0 where
  pub counts_line : List Word
  pub counts : PartCounts
  pub others : List (List Word)
  pub whole : lines ≡ counts_line ∷ others
  pub counted_by : counts_of_words counts_line ≡ Some counts
  pub runs : Runs (counted counts) others t

counts_head : (lines : List (List Word)) (t : RawTable) → Runs (moved phase.AtCounts first_walk) lines t → CountsHead lines t
counts_head [] t r = absurd (let d = r.0 in cc)
counts_head (b ∷ others) t r =
    let h = counts_read (moved phase.AtCounts first_walk) b r.1 r.2 in
    record { counts_line = b; counts = h.0; others = others; whole = refl; counted_by = h.1; runs = subst (λ (x : Walk). Runs x others t) (sym (same_walk (counted h.0) r.1 h.2)) r.3 }

pub head_to : (lines : List (List Word)) (t : RawTable) → Runs first_walk lines t → HeadRun lines t
head_to [] t r = absurd (let d = r.0 in cc)
head_to (a ∷ lines) t r =
    let h = table_begin first_walk a r.1 r.2 in
    let counts = counts_head lines t (subst (λ (x : Walk). Runs x lines t) (sym (same_walk (moved phase.AtCounts first_walk) r.1 h.1)) r.3) in
    let atoms = atoms_head counts.counts counts.others t counts.runs in
    record {
      counts_line = counts.counts_line;
      counts = counts.counts;
      others = atoms.others;
      whole = ap (λ (x : List Word). x ∷ lines) (pair_is a (codes "BEGIN") (codes "CTAB") h.0)
          ∙ ap (λ (x : List (List Word)). two (codes "BEGIN") (codes "CTAB") ∷ x)
          (counts.whole ∙ ap (λ (x : List (List Word)). counts.counts_line ∷ x) atoms.whole);
      counted_by = counts.counted_by;
      runs = atoms.runs;
    }

pub head_from : (counts_line : List Word) (n : PartCounts) (others : List (List Word)) (t : RawTable) → counts_of_words counts_line ≡ Some n → Runs (at_atoms n) others t
    → Runs first_walk (two (codes "BEGIN") (codes "CTAB") ∷ counts_line ∷ two (codes "BEGIN") (codes "ATOM") ∷ others) t
head_from counts_line n others t e r =
    (refl, moved phase.AtCounts first_walk, begin_table first_walk, (refl, counted n, read_counts (moved phase.AtCounts first_walk) counts_line n e, (refl, at_atoms n, begin_atoms (counted n), r)))

-- ---- all of them

-- logical lines that take nothing to this table are the lines of these atoms and bonds
pub record TableRun (lines : List (List Word)) (t : RawTable) : Type 0 where
  pub atoms : List AtomLine
  pub bonds : List BondLine
  pub are : AreTable lines atoms bonds
  pub twin : t ≡ twin_of atoms bonds

-- the table behind the atoms and bonds is their twin
twin_behind : (n : PartCounts) (atoms : List AtomLine) (bonds : List BondLine) →
    joined_by (after_atoms (at_atoms n) atoms).table (map (twin_bond (after_atoms (at_atoms n) atoms).indexes) bonds) ≡ twin_of atoms bonds
twin_behind n atoms bonds = rw (after_atoms-table atoms (at_atoms n), after_atoms-indexes atoms (at_atoms n)) refl

-- counts by their numbers
counts_are : (n : PartCounts) (a b : ℕ) → a ≡ n.atoms → b ≡ n.bonds → n ≡ (let m : PartCounts = record { atoms = a; bonds = b } in m)
counts_are n a b e f = rw (e, f) refl

pub table_to : (lines : List (List Word)) (t : RawTable) → Runs first_walk lines t → TableRun lines t
table_to lines t r =
    let head = head_to lines t r in
    let n = head.counts in
    let run = atoms_to head.others n.atoms (at_atoms n) t refl refl head.runs in
    let w = after_atoms (at_atoms n) run.atoms in
    let tail = tail_to n.bonds w run.others t (after_atoms-bonds run.atoms (at_atoms n)) run.runs in
    let bonds : length tail.bonds ≡ n.bonds = tail.count ∙ after_atoms-bonds run.atoms (at_atoms n) in
    record {
      atoms = run.atoms;
      bonds = tail.bonds;
      are = record {
        counts_line = head.counts_line;
        atom_lines = run.atom_lines;
        bond_part = tail.bond_part;
        others = tail.others;
        whole = head.whole ∙ ap (λ (x : List (List Word)). two (codes "BEGIN") (codes "CTAB") ∷ head.counts_line ∷ two (codes "BEGIN") (codes "ATOM") ∷ x)
            (run.whole ∙ ap (λ (x : List (List Word)). run.atom_lines ++ two (codes "END") (codes "ATOM") ∷ x) tail.whole);
        counted = head.counted_by ∙ ap Some (counts_are n (length run.atoms) (length tail.bonds) run.count bonds);
        each_atom = run.each;
        new = run.new;
        of_bonds = tail.of_bonds;
        passed = tail.passed;
      };
      twin = sym tail.table ∙ twin_behind n run.atoms tail.bonds;
    }

pub table_from : (lines : List (List Word)) (atoms : List AtomLine) (bonds : List BondLine) → AreTable lines atoms bonds → Runs first_walk lines (twin_of atoms bonds)
table_from lines atoms bonds h =
    let n : PartCounts = record { atoms = length atoms; bonds = length bonds } in
    let w = after_atoms (at_atoms n) atoms in
    let tail = tail_from w bonds h.bond_part h.others (twin_of atoms bonds) (sym (after_atoms-bonds atoms (at_atoms n))) h.of_bonds h.passed (twin_behind n atoms bonds) in
    let run = atoms_from atoms (at_atoms n) h.atom_lines (h.bond_part ++ (h.others ++ two (codes "END") (codes "CTAB") ∷ [])) (twin_of atoms bonds) refl refl h.each_atom h.new tail in
    subst (λ (ls : List (List Word)). Runs first_walk ls (twin_of atoms bonds)) (sym h.whole) (head_from h.counts_line n _ (twin_of atoms bonds) h.counted run)

-- ---- lines

-- what the parts make up is a table
pub to_table : (lines : List Line) (t : RawTable) → v3000_part.is lines t → IsV3000Table lines t
to_table lines t h =
    let body = h.second in
    let end = body.second in
    let run = walks_to body.first.0 first_walk body.front body.middle body.first.1 in
    let table = table_to run.words body.middle.table run.runs in
    record {
      counts_line = h.first.line;
      logical_lines = body.front;
      last_line = end.is.line;
      whole = h.whole ∙ ap (λ (x : List Line). x ++ h.back) h.first.whole ∙ ap (λ (x : List Line). h.first.line ∷ x) (body.whole ∙ ap (λ (x : List Line). body.front ++ x) end.is.whole);
      version = passes is_v3000 h.first.line _ h.first.spells;
      words = run.words;
      each = run.each;
      atoms = table.atoms;
      bonds = table.bonds;
      are = table.are;
      ended = passes is_end_line end.is.line _ end.is.spells;
      twin = end.seen ∙ table.twin;
    }

-- and a table is made up of the parts
pub from_table : (lines : List Line) (t : RawTable) → IsV3000Table lines t → v3000_part.is lines t
from_table lines t h =
    let walk = walks_from h.words first_walk h.logical_lines (twin_of h.atoms h.bonds) h.each (table_from h.words h.atoms h.bonds h.are) in
    record {
      front = h.counts_line ∷ [];
      back = h.logical_lines ++ h.last_line ∷ [];
      middle = tt;
      whole = h.whole;
      first = record { line = h.counts_line; whole = refl; spells = does_pass is_v3000 h.counts_line h.version };
      second = record {
        front = h.logical_lines;
        back = h.last_line ∷ [];
        middle = walk.last;
        whole = refl;
        first = (length h.words, walk.is);
        second = record {
          first = tt;
          is = record { line = h.last_line; whole = refl; spells = does_pass is_end_line h.last_line h.ended };
          seen = h.twin ∙ sym walk.table;
        };
      };
    }

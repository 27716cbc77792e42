-- Logical lines one by one: what takes a table to its end is exactly what the definition says.
use Rattle.std.proofs.Common.{◌≡◌, ℕ, zero, suc, ◌+◌, ◌-◌, ◌≤◌, ◌<◌, Bool, true, false, not, ◌&&◌, eqb, eqb-true, Option, Some, None, List, [], ◌∷◌, ◌++◌, map, length, refl, sym, ap, subst, ◌∙◌, append_assoc, append-nil, inl, inr, arith}
use Rattle.std.specs.Prelude.{ℤ, codes, bytes_eq, ◌⊎◌}
use Rattle.std.proofs.lemmas.List.{length-append}
use Rattle.std.proofs.lemmas.Slice.Eq.{bytes_eq-Decides}
use Rattle.mk_form.specs.Rows.{Series}
use Rattle.mk_form.specs.Exact.{Part}
use Rattle.mk_form.specs.Sequence.{sequence}
use Rattle.mk_form.specs.ToEnd.{EachIs}
use Rattle.mk_text.specs.Options.{◌>>=◌, when}
use Rattle.mk_text.proofs.ForCallers.{both, both_read, test_passed}
use Rattle.mk_props.specs.declared.property.Property.{Property}
use Rattle.mk_tables.specs.declared.raw.RawAtom.{RawAtom}
use Rattle.mk_tables.specs.declared.raw.RawBond.{RawBond}
use Rattle.mk_tables.specs.declared.raw.RawTable.{RawTable}
use Rattle.mk_tables.specs.TableLines.{Line}
use Rattle.mk_v3000.specs.declared.word_lines.PartCounts.{PartCounts}
use Rattle.mk_v3000.specs.declared.word_lines.AtomLine.{AtomLine}
use Rattle.mk_v3000.specs.declared.word_lines.BondLine.{BondLine}
use Rattle.mk_v3000.specs.declared.walk.Phase.{Phase}
use Rattle.mk_v3000.specs.declared.walk.Phase.TheVariants as phase
use Rattle.mk_v3000.specs.declared.walk.Walk.{Walk}
use Rattle.mk_v3000.specs.LogicalLines.{Word, goes_on, closes, words_in, IsLogicalLine}
use Rattle.mk_v3000.specs.Twin.{has_index, twin_atom, twin_bond, props_of, props_from, indexes_of, twin_of}
use Rattle.mk_v3000.specs.V3000Table.{two, IsBondPart, HasNoBondPart, AreTable, AreNew, ends_table}
use Rattle.mk_v3000.specs.Walk.{no_table, first_walk, moved, counted, with_atom, with_bond, behind_atoms, step_at, step, is_done}
use Rattle.mk_v3000.specs.Walking.{one_step, no_step, unless_done, walks}
use Rattle.mk_v3000.specs.WordLines.{is_pair, counts_of_words, atom_of, bond_of}

-- logical lines, by their words, take what has been read to the end of this table
abbrev pub Runs : Walk → List (List Word) → RawTable → Type 0
Runs w [] t = (is_done w.phase ≡ true) × (w.table ≡ t)
Runs w (words ∷ others) t = (is_done w.phase ≡ false) × (x : Walk) × (step w words ≡ Some x) × Runs x others t

-- ---- lines and words

-- lines are some logical lines that take what has been read to the end
pub record AllRuns (w : Walk) (lines : List Line) (t : RawTable) : Type 0 where
  pub words : List (List Word)
  pub each : Series IsLogicalLine lines words
  pub runs : Runs w words t

-- where the end has been read, none are left
to_none : (w : Walk) (lines : List Line) (v : Walk) (b : Bool) → is_done w.phase ≡ b → (unless_done b w no_step).is lines v → AllRuns w lines v.table
to_none w lines v true e h = record { words = []; each = h.0; runs = (e, ap (λ (x : Walk). x.table) (sym h.1)) }
to_none w lines v false e h = absurd (let s = h.spells in cc)

-- else there is one, and then the others
to_more : (w : Walk) (q : Walk → Part Line Walk) (others : (x : Walk) (lines : List Line) (v : Walk) → (q x).is lines v → AllRuns x lines v.table) (lines : List Line) (v : Walk) (b : Bool)
    → is_done w.phase ≡ b → (unless_done b w (sequence (one_step w) q)).is lines v → AllRuns w lines v.table
to_more w q others lines v true e h = record { words = []; each = h.0; runs = (e, ap (λ (x : Walk). x.table) (sym h.1)) }
to_more w q others lines v false e h =
    let first = h.first in
    let logical : IsLogicalLine h.front (words_in h.front) =
    record {
      firsts = first.firsts;
      last = first.last;
      whole = first.whole;
      go_on = first.go_on;
      ends = first.ends;
      closed = first.closed;
      spells = refl;
    } in
    let more = others h.middle h.back v h.second in
    record { words = words_in h.front ∷ more.words; each = (h.front, h.back, h.whole, logical, more.each); runs = (e, h.middle, first.spells, more.runs) }

-- what the parts make up are logical lines to the end
pub walks_to : (n : ℕ) (w : Walk) (lines : List Line) (v : Walk) → (walks w n).is lines v → AllRuns w lines v.table
walks_to zero w lines v h = to_none w lines v (is_done w.phase) refl h
walks_to (suc n) w lines v h = to_more w (λ x. walks x n) (λ x back u i. walks_to n x back u i) lines v (is_done w.phase) refl h

-- a text of the parts with this table
pub record WalksTo (w : Walk) (n : ℕ) (lines : List Line) (t : RawTable) : Type 0 where
  pub last : Walk
  pub is : (walks w n).is lines last
  pub table : last.table ≡ t

-- and logical lines to the end are made up of the parts
pub walks_from : (words : List (List Word)) (w : Walk) (lines : List Line) (t : RawTable) → Series IsLogicalLine lines words → Runs w words t → WalksTo w (length words) lines t
walks_from [] w lines t s r = record { last = w; is = subst (λ (b : Bool). (unless_done b w no_step).is lines w) (sym r.0) (s, refl); table = r.1 }
walks_from (ws ∷ words) w lines t s r =
    let logical = s.3 in
    let same : words_in s.0 ≡ ws = (let e = logical.spells in cc) in
    let more = walks_from words r.1 s.1 t s.4 r.3 in
    record {
      last = more.last;
      is = subst (λ (b : Bool). (unless_done b w (sequence (one_step w) (λ x. walks x (length words)))).is lines more.last) (sym r.0)
          (record {
            front = s.0;
            back = s.1;
            middle = r.1;
            whole = s.2;
            first = record {
              firsts = logical.firsts;
              last = logical.last;
              whole = logical.whole;
              go_on = logical.go_on;
              ends = logical.ends;
              closed = logical.closed;
              spells = ap (step w) same ∙ r.2;
            };
            second = more.is;
          });
      table = more.table;
    }

-- ---- two words

-- words that are a pair are these two
pub pair_is : (words : List Word) (a b : Word) → is_pair words a b ≡ true → words ≡ a ∷ b ∷ []
pair_is [] a b h = absurd cc
pair_is (x ∷ []) a b h = absurd cc
pair_is (x ∷ y ∷ []) a b h =
    let k = both (bytes_eq x a) (bytes_eq y b) h in
    rw ((bytes_eq-Decides x a).0 k.0, (bytes_eq-Decides y b).0 k.1) refl
pair_is (x ∷ y ∷ z ∷ more) a b h = absurd cc

-- no test is passed that isn't
not_is : (b : Bool) → not b ≡ true → b ≡ false
not_is false h = refl
not_is true h = absurd cc

-- ---- what has been read behind several atoms or bonds

-- behind these atoms
abbrev pub after_atoms : Walk → List AtomLine → Walk
after_atoms w [] = w
after_atoms w (a ∷ atoms) = after_atoms (with_atom w a) atoms

-- behind these bonds
abbrev pub after_bonds : Walk → List BondLine → Walk
after_bonds w [] = w
after_bonds w (b ∷ bonds) = after_bonds (with_bond w b) bonds

-- tables with the same parts
same_table : (t : RawTable) {a b : List RawAtom} {c d : List Property} → a ≡ b → c ≡ d
    → (let x : RawTable = record { atoms = a; bonds = t.bonds; lists = t.lists; props = c } in x) ≡ record
    { atoms = b; bonds = t.bonds; lists = t.lists; props = d }
same_table t e f = rw (e, f) refl

-- the atoms leave the number of bonds
pub after_atoms-bonds : (atoms : List AtomLine) (w : Walk) → (after_atoms w atoms).bonds ≡ w.bonds
after_atoms-bonds [] w = refl
after_atoms-bonds (a ∷ atoms) w = after_atoms-bonds atoms (with_atom w a)

-- their indexes stand behind those before
pub after_atoms-indexes : (atoms : List AtomLine) (w : Walk) → (after_atoms w atoms).indexes ≡ w.indexes ++ indexes_of atoms
after_atoms-indexes [] w = sym (append-nil w.indexes)
after_atoms-indexes (a ∷ atoms) w = after_atoms-indexes atoms (with_atom w a) ∙ append_assoc w.indexes (a.index ∷ []) (indexes_of atoms)

-- a table with the atoms behind it, of which the first has this place
abbrev pub grown : ℕ → RawTable → List AtomLine → RawTable
grown place t atoms = record { atoms = t.atoms ++ map twin_atom atoms; bonds = t.bonds; lists = t.lists; props = t.props ++ props_from place atoms }

-- and so do they and their properties in the table
pub after_atoms-table : (atoms : List AtomLine) (w : Walk) → (after_atoms w atoms).table ≡ grown (length w.indexes + 1) w.table atoms
after_atoms-table [] w = same_table w.table (sym (append-nil w.table.atoms)) (sym (append-nil w.table.props))
after_atoms-table (a ∷ atoms) w =
    let place : length (w.indexes ++ a.index ∷ []) ≡ length w.indexes + 1 = length-append w.indexes (a.index ∷ []) in
    after_atoms-table atoms (with_atom w a)
    ∙ same_table w.table (append_assoc w.table.atoms (twin_atom a ∷ []) (map twin_atom atoms))
    (ap (λ (k : ℕ). (w.table.props ++ props_of (length w.indexes + 1) a) ++ props_from (k + 1) atoms) place
    ∙ append_assoc w.table.props (props_of (length w.indexes + 1) a)
    (props_from ((length w.indexes + 1) + 1) atoms))

-- a table with bonds behind it
abbrev pub joined_by : RawTable → List RawBond → RawTable
joined_by t bonds = record { atoms = t.atoms; bonds = t.bonds ++ bonds; lists = t.lists; props = t.props }

-- bonds stand behind those before
pub after_bonds-table : (bonds : List BondLine) (w : Walk) → (after_bonds w bonds).table ≡ joined_by w.table (map (twin_bond w.indexes) bonds)
after_bonds-table [] w = rw (append-nil w.table.bonds) refl
after_bonds-table (b ∷ bonds) w = after_bonds-table bonds (with_bond w b) ∙ rw (append_assoc w.table.bonds (twin_bond w.indexes b ∷ []) (map (twin_bond w.indexes) bonds)) refl

-- ---- tests of counts

-- none are left
pub zero_test : (n : ℕ) → n ≡ 0 → eqb n 0 ≡ true
zero_test n e = ap (λ (k : ℕ). eqb k 0) e

-- some are
pub some_test : (n k : ℕ) → n ≡ suc k → eqb n 0 ≡ false
some_test n k e = by_test (eqb n 0) refl
  where
    by_test : (b : Bool) → eqb n 0 ≡ b → b ≡ false
    by_test false h = refl
    by_test true h = absurd (let z : n ≡ 0 = eqb-true n 0 h in omega (arith, z, e))

-- ---- the atom lines

-- the lines are those of so many atoms, and others behind them
pub record AtomsRun (k : ℕ) (w : Walk) (lines : List (List Word)) (t : RawTable) : Type 0 where
  pub atom_lines : List (List Word)
  pub others : List (List Word)
  pub atoms : List AtomLine
  pub whole : lines ≡ atom_lines ++ two (codes "END") (codes "ATOM") ∷ others
  pub each : map atom_of atom_lines ≡ map Some atoms
  pub count : length atoms ≡ k
  pub new : AreNew w.indexes atoms
  pub runs : Runs (behind_atoms (after_atoms w atoms)) others t

-- what is due among the atoms
in_atoms : (w : Walk) (words : List Word) → w.phase ≡ phase.InAtoms → step w words ≡ step_at phase.InAtoms w words
in_atoms w words e = ap (λ (p : Phase). step_at p w words) e

-- behind the last atom
pub atoms_end : (w : Walk) (words : List Word) (x : Walk) → w.atoms ≡ 0 → step_at phase.InAtoms w words ≡ Some x
    → (is_pair words (codes "END") (codes "ATOM") ≡ true) × (Some (behind_atoms w) ≡ Some x)
unfolding step_at
atoms_end w words x none h = test_passed (is_pair words (codes "END") (codes "ATOM")) (Some (behind_atoms w)) x (rw (zero_test w.atoms none) at h)

-- one more atom
pub record OneAtom (w : Walk) (words : List Word) (x : Walk) : Type 0 where
  pub atom : AtomLine
  pub is : atom_of words ≡ Some atom
  pub new : has_index w.indexes atom.index ≡ false
  pub next : with_atom w atom ≡ x

pub atoms_one : (k : ℕ) (w : Walk) (words : List Word) (x : Walk) → w.atoms ≡ suc k → step_at phase.InAtoms w words ≡ Some x → OneAtom w words x
unfolding step_at
atoms_one k w words x some h =
    let read = both_read (atom_of words) (λ a. when (not (has_index w.indexes a.index)) (Some (with_atom w a))) x (rw (some_test w.atoms k some) at h) in
    let passed = test_passed (not (has_index w.indexes read.0.index)) (Some (with_atom w read.0)) x read.2 in
    record { atom = read.0; is = read.1; new = not_is (has_index w.indexes read.0.index) passed.0; next = (let e = passed.1 in cc) }

pub atoms_to : (lines : List (List Word)) (k : ℕ) (w : Walk) (t : RawTable) → w.phase ≡ phase.InAtoms → w.atoms ≡ k → Runs w lines t → AtomsRun k w lines t
atoms_to [] k w t e n r = absurd (let d = ap is_done (sym e) ∙ r.0 in cc)
atoms_to (words ∷ lines) zero w t e n r =
    let h = atoms_end w words r.1 n (sym (in_atoms w words e) ∙ r.2) in
    let next : behind_atoms w ≡ r.1 = (let i = h.1 in cc) in
    record {
      atom_lines = [];
      others = lines;
      atoms = [];
      whole = ap (λ (x : List Word). x ∷ lines) (pair_is words (codes "END") (codes "ATOM") h.0);
      each = refl;
      count =
          refl;
      new = tt;
      runs = subst (λ (x : Walk). Runs x lines t) (sym next) r.3;
    }
atoms_to (words ∷ lines) (suc k) w t e n r =
    let h = atoms_one k w words r.1 n (sym (in_atoms w words e) ∙ r.2) in
    let left : w.atoms - 1 ≡ k = omega (arith, n) in
    let more = atoms_to lines k (with_atom w h.atom) t refl left (subst (λ (x : Walk). Runs x lines t) (sym h.next) r.3) in
    record {
      atom_lines = words ∷ more.atom_lines;
      others = more.others;
      atoms = h.atom ∷ more.atoms;
      whole = ap (λ (x : List (List Word)). words ∷ x) more.whole;
      each = rw (h.is, more.each) refl;
      count = ap suc more.count;
      new = (h.new, more.new);
      runs = more.runs;
    }

-- the end of the atoms is due behind the last
end_due : (w : Walk) → w.atoms ≡ 0 → step_at phase.InAtoms w (two (codes "END") (codes "ATOM")) ≡ Some (behind_atoms w)
unfolding step_at
end_due w none = rw (zero_test w.atoms none) refl

-- and an atom before
atom_due : (k : ℕ) (w : Walk) (words : List Word) (a : AtomLine) → w.atoms ≡ suc k → atom_of words ≡ Some a → has_index w.indexes a.index ≡ false → step_at phase.InAtoms w words ≡ Some (with_atom w a)
unfolding step_at
atom_due k w words a some is new = rw (some_test w.atoms k some, is, new) refl

pub atoms_from : (atoms : List AtomLine) (w : Walk) (atom_lines others : List (List Word)) (t : RawTable)
    → w.phase ≡ phase.InAtoms → w.atoms ≡ length atoms → map atom_of atom_lines ≡ map Some atoms
    → AreNew w.indexes atoms
    → Runs (behind_atoms (after_atoms w atoms)) others t → Runs w (atom_lines ++ two (codes "END") (codes "ATOM") ∷ others) t
atoms_from [] w [] others t e n each new r = (ap is_done e, behind_atoms w, in_atoms w _ e ∙ end_due w n, r)
atoms_from [] w (l ∷ atom_lines) others t e n each new r = absurd cc
atoms_from (a ∷ atoms) w [] others t e n each new r = absurd cc
atoms_from (a ∷ atoms) w (l ∷ atom_lines) others t e n each new r =
    let is : atom_of l ≡ Some a = cc in
    let more : map atom_of atom_lines ≡ map Some atoms = cc in
    let left : w.atoms - 1 ≡ length atoms = omega (arith, n) in
    (ap is_done e, with_atom w a, in_atoms w l e ∙ atom_due (length atoms) w l a n is new.0, atoms_from atoms (with_atom w a) atom_lines others t refl left more new.1 r)

-- ---- the bond lines

-- the lines are those of so many bonds, and others behind them
pub record BondsRun (k : ℕ) (w : Walk) (lines : List (List Word)) (t : RawTable) : Type 0 where
  pub bond_lines : List (List Word)
  pub others : List (List Word)
  pub bonds : List BondLine
  pub whole : lines ≡ bond_lines ++ two (codes "END") (codes "BOND") ∷ others
  pub each : map bond_of bond_lines ≡ map Some bonds
  pub count : length bonds ≡ k
  pub runs : Runs (moved phase.InRest (after_bonds w bonds)) others t

in_bonds : (w : Walk) (words : List Word) → w.phase ≡ phase.InBonds → step w words ≡ step_at phase.InBonds w words
in_bonds w words e = ap (λ (p : Phase). step_at p w words) e

pub bonds_end : (w : Walk) (words : List Word) (x : Walk) → w.bonds ≡ 0 → step_at phase.InBonds w words ≡ Some x
    → (is_pair words (codes "END") (codes "BOND") ≡ true) × (Some (moved phase.InRest w) ≡ Some x)
unfolding step_at
bonds_end w words x none h = test_passed (is_pair words (codes "END") (codes "BOND")) (Some (moved phase.InRest w)) x (rw (zero_test w.bonds none) at h)

pub bonds_one : (k : ℕ) (w : Walk) (words : List Word) (x : Walk) → w.bonds ≡ suc k
    → step_at phase.InBonds w words ≡ Some x → (b : BondLine) × (bond_of words ≡ Some b)
    × (Some (with_bond w b) ≡ Some x)
unfolding step_at
bonds_one k w words x some h = both_read (bond_of words) (λ b. Some (with_bond w b)) x (rw (some_test w.bonds k some) at h)

pub bonds_to : (lines : List (List Word)) (k : ℕ) (w : Walk) (t : RawTable) → w.phase ≡ phase.InBonds → w.bonds ≡ k → Runs w lines t → BondsRun k w lines t
bonds_to [] k w t e n r = absurd (let d = ap is_done (sym e) ∙ r.0 in cc)
bonds_to (words ∷ lines) zero w t e n r =
    let h = bonds_end w words r.1 n (sym (in_bonds w words e) ∙ r.2) in
    let next : moved phase.InRest w ≡ r.1 = (let i = h.1 in cc) in
    record {
      bond_lines = [];
      others = lines;
      bonds = [];
      whole = ap (λ (x : List Word). x ∷ lines) (pair_is words (codes "END") (codes "BOND") h.0);
      each = refl;
      count =
          refl;
      runs = subst (λ (x : Walk). Runs x lines t) (sym next) r.3;
    }
bonds_to (words ∷ lines) (suc k) w t e n r =
    let h = bonds_one k w words r.1 n (sym (in_bonds w words e) ∙ r.2) in
    let next : with_bond w h.0 ≡ r.1 = (let i = h.2 in cc) in
    let left : w.bonds - 1 ≡ k = omega (arith, n) in
    let more = bonds_to lines k (with_bond w h.0) t refl left (subst (λ (x : Walk). Runs x lines t) (sym next) r.3) in
    record {
      bond_lines = words ∷ more.bond_lines;
      others = more.others;
      bonds = h.0 ∷ more.bonds;
      whole = ap (λ (x : List (List Word)). words ∷ x) more.whole;
      each = rw (h.1, more.each) refl;
      count = ap suc more.count;
      runs = more.runs;
    }

bonds_done : (w : Walk) → w.bonds ≡ 0 → step_at phase.InBonds w (two (codes "END") (codes "BOND")) ≡ Some (moved phase.InRest w)
unfolding step_at
bonds_done w none = rw (zero_test w.bonds none) refl

bond_due : (k : ℕ) (w : Walk) (words : List Word) (b : BondLine) → w.bonds ≡ suc k → bond_of words ≡ Some b → step_at phase.InBonds w words ≡ Some (with_bond w b)
unfolding step_at
bond_due k w words b some is = rw (some_test w.bonds k some, is) refl

pub bonds_from : (bonds : List BondLine) (w : Walk) (bond_lines others : List (List Word)) (t : RawTable) → w.phase ≡ phase.InBonds → w.bonds ≡ length bonds → map bond_of bond_lines ≡ map Some bonds
    → Runs (moved phase.InRest (after_bonds w bonds)) others t → Runs w (bond_lines ++ two (codes "END") (codes "BOND") ∷ others) t
bonds_from [] w [] others t e n each r = (ap is_done e, moved phase.InRest w, in_bonds w _ e ∙ bonds_done w n, r)
bonds_from [] w (l ∷ bond_lines) others t e n each r = absurd cc
bonds_from (b ∷ bonds) w [] others t e n each r = absurd cc
bonds_from (b ∷ bonds) w (l ∷ bond_lines) others t e n each r =
    let is : bond_of l ≡ Some b = cc in
    let more : map bond_of bond_lines ≡ map Some bonds = cc in
    let left : w.bonds - 1 ≡ length bonds = omega (arith, n) in
    (ap is_done e, with_bond w b, in_bonds w l e ∙ bond_due (length bonds) w l b n is, bonds_from bonds (with_bond w b) bond_lines others t refl left more r)

-- ---- the others

-- what is due among the others
in_rest : (w : Walk) (words : List Word) → w.phase ≡ phase.InRest → step w words ≡ step_at phase.InRest w words
in_rest w words e = ap (λ (p : Phase). step_at p w words) e

-- a line that ends the table
pub rest_end : (w : Walk) (words : List Word) → ends_table words ≡ true → step_at phase.InRest w words ≡ Some (moved phase.Done w)
unfolding step_at
rest_end w words h = rw h refl

-- and one that doesn't
pub rest_more : (w : Walk) (words : List Word) → ends_table words ≡ false → step_at phase.InRest w words ≡ Some (moved phase.InRest w)
unfolding step_at
rest_more w words h = rw h refl

-- the lines are others, and the last one
pub record RestRun (w : Walk) (lines : List (List Word)) (t : RawTable) : Type 0 where
  pub others : List (List Word)
  pub whole : lines ≡ others ++ two (codes "END") (codes "CTAB") ∷ []
  pub passed : EachIs ends_table false others
  pub table : w.table ≡ t

-- behind the last line there is none
last_line : (w : Walk) (lines : List (List Word)) (t : RawTable) → Runs (moved phase.Done w) lines t → (lines ≡ []) × (w.table ≡ t)
last_line w [] t r = (refl, r.1)
last_line w (words ∷ lines) t r = absurd (let d = r.0 in cc)

-- by whether the first of the lines ends the table
rest_by : (words : List Word) (lines : List (List Word)) (w : Walk) (t : RawTable) → w.phase ≡ phase.InRest
    → (Runs (moved phase.InRest w) lines t → RestRun (moved phase.InRest w) lines t) → (b : Bool) → ends_table words ≡ b
    → Runs w (words ∷ lines) t
    → RestRun w (words ∷ lines) t
rest_by words lines w t e others true h r =
    let next : moved phase.Done w ≡ r.1 = (let i = sym (rest_end w words h) ∙ sym (in_rest w words e) ∙ r.2 in cc) in
    let last = last_line w lines t (subst (λ (x : Walk). Runs x lines t) (sym next) r.3) in
    record { others = []; whole = rw (pair_is words (codes "END") (codes "CTAB") h, last.0) refl; passed = tt; table = last.1 }
rest_by words lines w t e others false h r =
    let next : moved phase.InRest w ≡ r.1 = (let i = sym (rest_more w words h) ∙ sym (in_rest w words e) ∙ r.2 in cc) in
    let more = others (subst (λ (x : Walk). Runs x lines t) (sym next) r.3) in
    record { others = words ∷ more.others; whole = ap (λ (x : List (List Word)). words ∷ x) more.whole; passed = (h, more.passed); table = more.table }

pub rest_to : (lines : List (List Word)) (w : Walk) (t : RawTable) → w.phase ≡ phase.InRest → Runs w lines t → RestRun w lines t
rest_to [] w t e r = absurd (let d = ap is_done (sym e) ∙ r.0 in cc)
rest_to (words ∷ lines) w t e r = rest_by words lines w t e (rest_to lines (moved phase.InRest w) t refl) (ends_table words) refl r

pub rest_from : (others : List (List Word)) (w : Walk) (t : RawTable) → w.phase ≡ phase.InRest
    → EachIs ends_table false others → w.table ≡ t → Runs w (others ++ two (codes "END") (codes "CTAB") ∷ []) t
rest_from [] w t e passed is = (ap is_done e, moved phase.Done w, in_rest w _ e ∙ rest_end w _ refl, (refl, is))
rest_from (words ∷ others) w t e passed is = (ap is_done e, moved phase.InRest w, in_rest w words e ∙ rest_more w words passed.0, rest_from others (moved phase.InRest w) t refl passed.1 is)

-- How many hydrogens the written atoms gain.
use Rattle.std.proofs.Common.{◌≡◌, ◌≤◌, ◌<◌, ◌+◌, ◌-◌, ℕ, true, List, [], ◌∷◌, ◌++◌, Some, ap, sym, subst, ◌∙◌, length, get_or, arith, ⊎_elim}
use Rattle.std.specs.Prelude.{ℤ, pos, negsuc, All, nat_le, slice_get}
use Rattle.std.proofs.lemmas.Bool.{cases_lt, le-leb}
use Rattle.std.proofs.lemmas.List.{length_push, get_or_push, get_or_append_left}
use Rattle.std.proofs.lemmas.Int.{ints}
use Rattle.std.proofs.lemmas.List.Elements.{All-map}
use Rattle.mk_model.specs.declared.edge.Edge.{Edge}
use Rattle.mk_model.specs.Edges.{numbers_at, rows_of}
use Rattle.mk_model.proofs.ForCallers.{length-numbers_from, length-rows_of}
use Rattle.mk_valence.specs.Hydrogens.{added_hydrogens}
use Rattle.mk_model.specs.declared.molecule.Atom.{Atom}
use Rattle.mk_tables.specs.declared.raw.RawAtom.{RawAtom}
use Rattle.mk_tables.specs.declared.raw.RawTable.{RawTable}
use Rattle.mk_mol.specs.declared.bond_checks.Drawn.{Drawn}
use Rattle.mk_demands.specs.Numbers.{IsWithin, natural, byte}
use Rattle.mk_demands.specs.Bonds.{raw_edge, edges_of}
use Rattle.mk_mol.specs.Checks.{HasKnownType}
use Rattle.mk_mol.specs.FirstFault.{MeetsAllChecks, known_types, few_bonds}
use Rattle.mk_mol.specs.Filled.{AreGains, gained_by, kinds_at}
use Rattle.mk_mol.specs.Putting.{kinds_of}
use Rattle.mk_mol.specs.Search.{IsDrawn}
use Rattle.mk_demands.proofs.ForCallers.{numbers_are}
use Rattle.mk_mol.proofs.HydrogenLemmas.{kinds_are}
use Rattle.std.proofs.lemmas.Option.{slice_get_within, get_or_from_slice_get, slice_get-get_or}
use Rattle.mk_text.proofs.ForCallers.{all_of}

-- the first k atoms gain these numbers
pub record AreGainsTo (table : RawTable) (atoms : List Atom) (k : ℕ) (gains : List ℕ) : Type 0 where
  pub size : length gains ≡ k
  pub each : (i : ℕ) (line : RawAtom) (atom : Atom) → i < k → slice_get table.atoms i ≡ Some line → slice_get atoms i ≡ Some atom → get_or gains i 0 ≡ gained_by table (i + 1) line atom

pub gains-none : (table : RawTable) (atoms : List Atom) (gains : List ℕ) → gains ≡ [] → AreGainsTo table atoms 0 gains
gains-none table atoms gains is = record { size = ap length is; each = λ i line atom below. absurd (omega arith) }

-- one atom more
pub gains-more : (table : RawTable) (atoms : List Atom) (k : ℕ) (d : Atom) (gains : List ℕ) (gained : ℕ)
    → k < length atoms → ((line : RawAtom) → slice_get table.atoms k ≡ Some line
    → gained ≡ gained_by table (k + 1) line (get_or atoms k d)) → AreGainsTo table atoms k gains
    → AreGainsTo table atoms (k + 1) (gains ++ gained ∷ [])
gains-more table atoms k d gains gained below is are = record {
  size = omega (arith, length_push gains gained, are.size);
  each = λ i line atom i_in line_at atom_at.
      ⊎_elim
      (λ earlier. get_or_append_left gains (gained ∷ []) 0 i (omega (arith, are.size)) ∙ are.each i line atom earlier line_at atom_at)
      (λ last.
      let here : i ≡ k = omega arith in
      let line_here : slice_get table.atoms k ≡ Some line = rw here at line_at in
      let atom_here : get_or atoms k d ≡ atom = get_or_from_slice_get atoms k atom d (rw here at atom_at) in
      let P : ℕ → Type 0 = λ j. gained ≡ gained_by table (j + 1) line atom in
      get_or_push gains gained 0 i (are.size ∙ sym here) ∙ subst P (sym here) (rw atom_here at (is line line_here)))
      (cases_lt i k);
}

-- all atoms
pub gains-all : (table : RawTable) (atoms : List Atom) (k : ℕ) (gains : List ℕ) → length atoms ≡ length table.atoms
    → length atoms ≤ k → k ≤ length atoms → AreGainsTo table atoms k gains → AreGains table atoms gains
gains-all table atoms k gains size all few are = record {
  size = omega (arith, are.size, size);
  each = λ i line atom line_at atom_at.
      let below : i < k = omega (arith, slice_get_within atoms i atom atom_at) in
      slice_get-get_or gains i 0 (omega (arith, are.size)) ∙ ap Some (are.each i line atom below line_at atom_at);
}

-- ---- one atom

-- the bonds whose types are known have edges of known types
known_kind : (z : ℤ) → IsWithin (pos 1) (pos 4) z → (1 ≤ byte z) × (byte z ≤ 4)
known_kind (pos n) is =
    let least : 1 ≤ n = omega (arith, ints, is.least) in
    let most : n ≤ 4 = omega (arith, ints, is.most) in
    let fits : nat_le n 255 ≡ true = le-leb n 255 (omega arith) in
    rw fits (least, most)
known_kind (negsuc n) is = absurd (omega (arith, ints, is.least))

pub known_kinds : (table : RawTable) (edges : List Edge) → edges ≡ edges_of table.bonds → MeetsAllChecks table → All (λ edge. (1 ≤ edge.kind) × (edge.kind ≤ 4)) edges
known_kinds table edges are passes =
    rw are
    (All-map (λ (edge : Edge). (1 ≤ edge.kind) × (edge.kind ≤ 4)) raw_edge table.bonds
    (λ k d below. known_kind (get_or table.bonds k d).kind (all_of HasKnownType table.bonds (passes known_types) k d below)))

-- the numbers of the bonds of an atom of the table
pub numbers_of : (table : RawTable) (drawn : Drawn) (i : ℕ) (numbers : List ℕ) → IsDrawn table drawn
    → i < length table.atoms → slice_get drawn.near (i + 1 - 1) ≡ Some numbers
    → numbers ≡ numbers_at (edges_of table.bonds) (i + 1)
numbers_of table drawn i numbers is below at =
    let size : length drawn.near ≡ length table.atoms = ap length is.near ∙ length-rows_of (length table.atoms) drawn.edges.items in
    let rows : drawn.near ≡ rows_of (length drawn.near) drawn.edges.items = rw size is.near in
    numbers_are drawn.near drawn.edges.items (i + 1) numbers rows (omega arith) (omega arith) at ∙ ap (λ (es : List Edge). numbers_at es (i + 1)) is.edges

-- there is a list for each atom
pub near_size : (table : RawTable) (drawn : Drawn) → IsDrawn table drawn → length drawn.near ≡ length table.atoms
near_size table drawn is = ap length is.near ∙ length-rows_of (length table.atoms) drawn.edges.items

-- it is short
pub few_numbers : (table : RawTable) (i : ℕ) (numbers : List ℕ) → MeetsAllChecks table → i < length table.atoms → numbers ≡ numbers_at (edges_of table.bonds) (i + 1) → length numbers ≤ 20
few_numbers table i numbers passes below are =
    let few = passes few_bonds (i + 1) (omega arith) (omega arith) in
    omega (arith, few, ap length are, length-numbers_from 1 (edges_of table.bonds) (i + 1))

-- what an atom gains by the types of the numbered bonds
pub gained_is : (table : RawTable) (i mark gained : ℕ) (seen line : RawAtom) (atom : Atom) (edges : List Edge)
    (numbers : List ℕ) → seen ≡ get_or table.atoms i seen → i < length table.atoms → mark ≡ natural seen.valence
    → edges ≡ edges_of table.bonds → numbers ≡ numbers_at (edges_of table.bonds) (i + 1)
    → gained ≡ added_hydrogens atom.element atom.charge atom.radical mark (kinds_of edges numbers)
    → slice_get table.atoms i ≡ Some line → gained ≡ gained_by table (i + 1) line atom
gained_is table i mark gained seen line atom edges numbers is below marks are ns by at =
    let same : seen ≡ line = is ∙ get_or_from_slice_get table.atoms i line seen at in
    let kinds : kinds_of edges numbers ≡ kinds_at (edges_of table.bonds) (i + 1) = rw (are, ns) (kinds_are (edges_of table.bonds) (i + 1)) in
    by ∙ ap (λ (ks : List ℕ). added_hydrogens atom.element atom.charge atom.radical mark ks) kinds
    ∙ ap (λ (m : ℕ). added_hydrogens atom.element atom.charge atom.radical m (kinds_at (edges_of table.bonds) (i + 1))) (marks ∙ ap (λ (l : RawAtom). natural l.valence) same)

-- The written atoms, one by one.
use Rattle.std.proofs.Common.{◌≡◌, ◌≤◌, ◌<◌, ◌+◌, ℕ, List, [], ◌∷◌, ◌++◌, Some, ap, sym, ◌∙◌, length, get_or, arith, ⊎_elim}
use Rattle.std.specs.Prelude.{slice_get, pos}
use Rattle.std.proofs.lemmas.Bool.{cases_lt}
use Rattle.std.proofs.lemmas.List.{length_push, get_or_append_left, get_or_push}
use Rattle.std.proofs.lemmas.Option.{get_or_from_slice_get, slice_get-get_or, slice_get_within}
use Rattle.mk_elements.specs.Symbols.{NamesElement}
use Rattle.mk_model.specs.declared.molecule.Atom.{Atom}
use Rattle.mk_demands.specs.declared.charges.Electrons.{Electrons}
use Rattle.mk_tables.specs.declared.raw.RawAtom.{RawAtom}
use Rattle.mk_tables.specs.declared.raw.RawTable.{RawTable}
use Rattle.mk_demands.specs.Charges.{AreElectrons}
use Rattle.mk_mol.specs.Filled.{AreWrittenAtoms, IsWrittenAtom}

-- the first k atom lines stand for these atoms
pub record AreWrittenTo (table : RawTable) (k : ℕ) (atoms : List Atom) : Type 0 where
  pub size : length atoms ≡ k
  pub each : (i : ℕ) (line : RawAtom) (d : Atom) → i < k → slice_get table.atoms i ≡ Some line → IsWrittenAtom table (i + 1) line (get_or atoms i d)

-- one atom with its charge and its radical
pub written-one : (table : RawTable) (list : List Electrons) (k : ℕ) (line : RawAtom) (d electrons : Electrons)
    (atom : Atom) → AreElectrons table list → slice_get table.atoms k ≡ Some line → electrons ≡ get_or list k d
    → k < length list
    → NamesElement line.symbol atom.element → atom.charge ≡ electrons.charge → atom.radical ≡ electrons.radical → IsWrittenAtom table (k + 1) line atom
written-one table list k line d electrons atom are at is below element charge radical =
    let has = are.each k line electrons at (slice_get-get_or list k d below ∙ ap Some (sym is)) in
    record { element = element; charge = charge ∙ has.charge; radical = ap pos radical ∙ has.radical }

-- one atom line more
pub written-more : (table : RawTable) (k : ℕ) (seen : RawAtom) (atoms : List Atom) (atom : Atom)
    → seen ≡ get_or table.atoms k seen → IsWrittenAtom table (k + 1) seen atom → AreWrittenTo table k atoms
    → AreWrittenTo table (k + 1) (atoms ++ atom ∷ [])
written-more table k seen atoms atom is made are = record {
  size = omega (arith, length_push atoms atom, are.size);
  each = λ i line d below at.
      ⊎_elim
      (λ earlier. rw (get_or_append_left atoms (atom ∷ []) d i (omega (arith, are.size))) (are.each i line d earlier at))
      (λ last.
      let here : i ≡ k = omega arith in
      let same : seen ≡ line = is ∙ get_or_from_slice_get table.atoms k line seen (rw here at at) in
      rw (get_or_push atoms atom d i (are.size ∙ sym here), here, ← same) made)
      (cases_lt i k);
}

-- all
pub written-all : (table : RawTable) (k : ℕ) (atoms : List Atom) → length table.atoms ≡ k → AreWrittenTo table k atoms → AreWrittenAtoms table atoms
written-all table k atoms all are = record {
  size = are.size ∙ sym all;
  each = λ i line atom line_at atom_at.
      let here = are.each i line atom (omega (arith, all, slice_get_within table.atoms i line line_at)) line_at in
      rw (get_or_from_slice_get atoms i atom atom atom_at) at here;
}

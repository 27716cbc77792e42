-- An atom fits exactly where its tests are met, and a bond lies on the one that is found exactly where that meets its test.
--     fits_by        tests that are all met make an atom fit
--     meets_around   an atom that fits meets those that look at its bonds
--     lies_by, lies_only, lies_never      a bond lies on the bond that joins the ends, exactly where that one meets its test
use Rattle.std.proofs.Common.{◌≡◌, ◌-◌, ℕ, Bool, true, Option, Some, None, subst}
use Rattle.std.specs.Prelude.{◌&&◌, ◌↔◌, slice_get}
use Rattle.std.proofs.lemmas.Bool.{and_parts, and_from}
use Rattle.mk_model.specs.declared.graph.GraphAtom.{GraphAtom}
use Rattle.mk_model.specs.declared.graph.GraphBond.{GraphBond}
use Rattle.mk_model.specs.declared.molecule.Atom.{Atom}
use Rattle.mk_model.specs.declared.molecule.MolBond.{MolBond}
use Rattle.mk_model.specs.Fitting.{FitsAtom, LiesOn, drawn_hydrogens, drawn_others, drawn_rings, hydrogens_at, is_unsaturated_at, others_at, rings_at}
use Rattle.mk_model.specs.Graphs.{GraphView}
use Rattle.mk_model.specs.Molecules.{IsBondOf, Molecule}
use Rattle.mk_model.specs.Tests.{accepts, charge_fits, hydrogens_fit, meets, radical_fits, ring_bonds_fit, substitution_fits, unsaturation_fits}

-- ---- an atom

-- the tests that look at the atom alone
abbrev pub alone : GraphAtom → Atom → Bool
alone asked atom = accepts asked.test.kind atom.element && (charge_fits asked.test.charge atom.charge && radical_fits asked.test.radical atom.radical)

-- the tests that look at its bonds
abbrev pub around : GraphView → Molecule → ℕ → ℕ → GraphAtom → Bool
around graph mol x m asked =
    hydrogens_fit asked.test.hydrogens (drawn_hydrogens graph x) asked.free (hydrogens_at mol m)
    && (ring_bonds_fit asked.test.ring_bonds (drawn_rings graph x) (rings_at mol m)
    && (substitution_fits asked.test.substitution (drawn_others graph x) asked.free (others_at mol m)
    && unsaturation_fits asked.test.unsaturated (is_unsaturated_at mol m)))

-- tests that are all met make the atom fit
pub fits_by : (graph : GraphView) (mol : Molecule) (x m : ℕ) (asked : GraphAtom) (atom : Atom)
    → slice_get graph.atoms (x - 1) ≡ Some asked → slice_get mol.atoms (m - 1) ≡ Some atom → alone asked atom ≡ true
    → around graph mol x m asked ≡ true → FitsAtom graph mol x m
fits_by graph mol x m asked atom asked_at atom_at by_itself by_bonds =
    let kind = and_parts _ _ by_itself in
    let charge = and_parts _ _ kind.1 in
    let hydrogens = and_parts _ _ by_bonds in
    let rings = and_parts _ _ hydrogens.1 in
    let others = and_parts _ _ rings.1 in
    record {
      asked = asked;
      asked_at = asked_at;
      atom = atom;
      atom_at = atom_at;
      kind = kind.0;
      charge = charge.0;
      radical = charge.1;
      hydrogens = hydrogens.0;
      ring_bonds = rings.0;
      substitution = others.0;
      unsaturation = others.1;
    }

-- an atom that fits meets the tests that look at its bonds
pub meets_around : (graph : GraphView) (mol : Molecule) (x m : ℕ) (asked : GraphAtom) → slice_get graph.atoms (x - 1) ≡ Some asked → FitsAtom graph mol x m → around graph mol x m asked ≡ true
meets_around graph mol x m asked asked_at fits =
    let same : fits.asked ≡ asked = cc (fits.asked_at, asked_at) in
    let P : GraphAtom → Type 0 = λ a. around graph mol x m a ≡ true in
    subst P same (and_from _ _ fits.hydrogens (and_from _ _ fits.ring_bonds (and_from _ _ fits.substitution fits.unsaturation)))

-- ---- a bond

-- a bond of a graph lies on the one that joins the ends, where that one meets its test
pub lies_by : (mol : Molecule) (drawn : Option GraphBond) (asked other : GraphBond) (a b : ℕ) (found : Option MolBond)
    (bond : MolBond) → drawn ≡ Some asked → drawn ≡ Some other → ((d : MolBond) → (found ≡ Some d) ↔ IsBondOf mol a b d)
    → found ≡ Some bond → meets asked bond ≡ true → LiesOn mol other a b
lies_by mol drawn asked other a b found bond is_asked is_other exact is_found met =
    let same : asked ≡ other = cc (is_asked, is_other) in
    let P : GraphBond → Type 0 = λ d. meets d bond ≡ true in
    record { bond = bond; joins = (exact bond).0 is_found; meets = subst P same met }

-- and only there
pub lies_only : (mol : Molecule) (drawn : Option GraphBond) (asked other : GraphBond) (a b : ℕ) (found : Option MolBond)
    (bond : MolBond) → drawn ≡ Some asked → drawn ≡ Some other → ((d : MolBond) → (found ≡ Some d) ↔ IsBondOf mol a b d)
    → found ≡ Some bond → LiesOn mol other a b → meets asked bond ≡ true
lies_only mol drawn asked other a b found bond is_asked is_other exact is_found lies =
    let same : other ≡ asked = cc (is_asked, is_other) in
    let joins : found ≡ Some lies.bond = (exact lies.bond).1 lies.joins in
    let same_bond : lies.bond ≡ bond = cc (joins, is_found) in
    let P : GraphBond → Type 0 = λ d. meets d bond ≡ true in
    let Q : MolBond → Type 0 = λ d. meets other d ≡ true in
    subst P same (subst Q same_bond lies.meets)

-- where no bond joins the ends it lies on none
pub lies_never : (mol : Molecule) (asked : GraphBond) (a b : ℕ) (found : Option MolBond) → ((d : MolBond) → (found ≡ Some d) ↔ IsBondOf mol a b d) → found ≡ None → LiesOn mol asked a b → ⊥
lies_never mol asked a b found exact none lies =
    let joins : found ≡ Some lies.bond = (exact lies.bond).1 lies.joins in
    cc (joins, none)

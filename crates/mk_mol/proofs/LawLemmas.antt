-- The laws: one first fault, one filled molecule, and the text that is kept.
use Rattle.std.proofs.Common.{◌≡◌, ◌<◌, ◌+◌, ℕ, zero, suc, Bool, true, false, not, ◌&&◌, eqb, List, [], ◌∷◌, ◌++◌, Some, refl, ap, sym, subst, ◌∙◌, length, get_or, replicate, arith, inl, inr, ⊎_elim, IsTrue}
use Rattle.std.specs.Prelude.{ℤ, pos, slice_get, ◌⊎◌, ◌↔◌}
use Rattle.std.specs.List.{list_all}
use Rattle.std.proofs.lemmas.Bool.{cases_order, true≢false}
use Rattle.std.proofs.lemmas.List.{same_lists, length-map, get_or-map}
use Rattle.mk_elements.specs.Symbols.{NamesElement, symbols}
use Rattle.mk_elements.proofs.ForCallers.{one_element}
use Rattle.mk_props.specs.declared.property.Property.{Property}
use Rattle.mk_props.specs.declared.property.Property.TheVariants as kinds
use Rattle.mk_model.specs.declared.edge.Edge.{Edge}
use Rattle.mk_model.specs.declared.molecule.Atom.{Atom}
use Rattle.mk_model.specs.declared.molecule.MolBond.{MolBond}
use Rattle.mk_model.specs.Molecules.{Molecule, HasMarks, edge_of, edges}
use Rattle.mk_tables.specs.declared.raw.RawAtom.{RawAtom}
use Rattle.mk_tables.specs.declared.raw.RawTable.{RawTable}
use Rattle.mk_tables.specs.KeptTables.{EndsWithoutCr, HoldsNoText}
use Rattle.mk_demands.specs.Bonds.{edges_of}
use Rattle.mk_mol.specs.Checks.{IsKnownAtom, IsOfMolecules}
use Rattle.mk_mol.specs.Filled.{AreGains, AreWrittenAtoms, IsWrittenAtom, hydrogen_atom, hydrogen_bonds, owners}
use Rattle.mk_text.specs.Items.{IsLeastFailing}
use Rattle.mk_mol.specs.FirstFault.{MoleculeCheck, MoleculeDemands}
use Rattle.mk_marks.specs.Laws.{OneListOfMolBonds}
use Rattle.mk_mol.specs.Laws.{OneFirstFault, NoFaultWhereAllPass, OneFilledMolecule, PassingTablesKeepTheirText}
use Rattle.mk_mol.proofs.FaultLemmas.{number-once}
use Rattle.std.proofs.lemmas.Option.{get_or_from_slice_get, slice_get-get_or}
use Rattle.mk_text.proofs.ForCallers.{all_of, one_item}

-- ---- the first fault

pub one_fault : OneFirstFault
one_fault table n item m other p q = by_order (cases_order n m)
  where
    by_order : (n ≡ m) ⊎ ((n < m) ⊎ (m < n)) → (n ≡ m) × (item ≡ other)
    by_order (inl same) =
        let checks : q.check ≡ p.check = number-once q.check p.check (q.numbered ∙ sym same ∙ sym p.numbered) in
        let P : MoleculeCheck → Type 0 = λ c. IsLeastFailing (MoleculeDemands table c) other in
        (same, one_item (MoleculeDemands table p.check) item other p.least (subst P checks q.least))
    by_order (inr (inl below)) = absurd (p.least.fails (q.before p.check (omega (arith, p.numbered, below)) item))
    by_order (inr (inr above)) = absurd (q.least.fails (p.before q.check (omega (arith, q.numbered, above)) other))

pub no_fault : NoFaultWhereAllPass
no_fault table n item passes fault = fault.least.fails (passes fault.check item)

-- ---- the filled molecule

same_atom : (a b : Atom) → a.element ≡ b.element → a.charge ≡ b.charge → a.radical ≡ b.radical → a ≡ b
same_atom a b p q r =
    ap (λ (x : ℕ). record { element = x; charge = a.charge; radical = a.radical }) p
    ∙ ap (λ (x : ℤ). record { element = b.element; charge = x; radical = a.radical }) q
    ∙ ap (λ (x : ℕ). record { element = b.element; charge = b.charge; radical = x }) r

-- an atom line stands for one atom
one_written : (table : RawTable) (n : ℕ) (line : RawAtom) (a b : Atom) → IsWrittenAtom table n line a → IsWrittenAtom table n line b → a ≡ b
one_written table n line a b p q =
    let radicals : pos a.radical ≡ pos b.radical = p.radical ∙ sym q.radical in
    same_atom a b (one_element line.symbol a.element b.element p.element q.element) (p.charge ∙ sym q.charge) cc

one_atoms : (table : RawTable) (xs ys : List Atom) → AreWrittenAtoms table xs → AreWrittenAtoms table ys → xs ≡ ys
one_atoms table xs ys p q =
    same_lists xs ys (p.size ∙ sym q.size)
    (λ k d below.
    let line : RawAtom = record { symbol = []; charge = pos 0; hydrogens = pos 0; valence = pos 0 } in
    let line_at = slice_get-get_or table.atoms k line (omega (arith, below, p.size)) in
    one_written table (k + 1) (get_or table.atoms k line) (get_or xs k d) (get_or ys k d)
    (p.each k (get_or table.atoms k line) (get_or xs k d) line_at (slice_get-get_or xs k d below))
    (q.each k (get_or table.atoms k line) (get_or ys k d) line_at (slice_get-get_or ys k d (omega (arith, below, p.size, q.size)))))

one_gains : (table : RawTable) (atoms : List Atom) (gs hs : List ℕ) → length atoms ≡ length table.atoms → AreGains table atoms gs → AreGains table atoms hs → gs ≡ hs
one_gains table atoms gs hs size p q =
    same_lists gs hs (p.size ∙ sym q.size)
    (λ k d below.
    let line : RawAtom = record { symbol = []; charge = pos 0; hydrogens = pos 0; valence = pos 0 } in
    let line_at = slice_get-get_or table.atoms k line (omega (arith, below, p.size)) in
    let atom_at = slice_get-get_or atoms k hydrogen_atom (omega (arith, below, p.size, size)) in
    get_or_from_slice_get gs k _ d (p.each k (get_or table.atoms k line) (get_or atoms k hydrogen_atom) line_at atom_at)
    ∙ sym (get_or_from_slice_get hs k _ d (q.each k (get_or table.atoms k line) (get_or atoms k hydrogen_atom) line_at atom_at)))

same_molecule : (a b : Molecule) → a.written ≡ b.written → a.atoms ≡ b.atoms → a.bonds ≡ b.bonds → a ≡ b
same_molecule a b p q r =
    ap (λ (x : ℕ). record { written = x; atoms = a.atoms; bonds = a.bonds }) p
    ∙ ap (λ (x : List Atom). record { written = b.written; atoms = x; bonds = a.bonds }) q
    ∙ ap (λ (x : List MolBond). record { written = b.written; atoms = b.atoms; bonds = x }) r

pub one_filled : OneListOfMolBonds → OneFilledMolecule
one_filled one_list table a b a_is b_is p q =
    let atoms : p.atoms ≡ q.atoms = one_atoms table p.atoms q.atoms p.are_written q.are_written in
    let P : List Atom → Type 0 = λ xs. AreGains table xs q.gains in
    let gains : p.gains ≡ q.gains = one_gains table p.atoms p.gains q.gains p.are_written.size p.are_gains (subst P (sym atoms) q.are_gains) in
    let all : a.atoms ≡ b.atoms = p.filled ∙ ap (λ (xs : List Atom). xs ++ replicate (length (owners 1 p.gains))
    hydrogen_atom) atoms ∙ ap (λ (gs : List ℕ). q.atoms ++ replicate (length (owners 1 gs)) hydrogen_atom) gains
    ∙ sym q.filled in
    let plain : edges a.bonds ≡ edges b.bonds = p.bonds ∙ ap (λ (gs : List ℕ). edges_of table.bonds ++ hydrogen_bonds (length table.atoms + 1) (owners 1 gs)) gains ∙ sym q.bonds in
    same_molecule a b (p.written ∙ sym q.written) all (one_list a.bonds b.bonds a_is.marks b_is.marks plain)

-- ---- the text that is kept

-- no byte is CR
abbrev has_no_cr : List ℕ → Bool
has_no_cr bytes = list_all (λ b. not (eqb b 13)) bytes

-- such bytes don't end with it
no_end : (bytes front : List ℕ) → has_no_cr bytes ≡ true → bytes ≡ front ++ 13 ∷ [] → ⊥
no_end bytes [] none is = let P : List ℕ → Type 0 = λ l. has_no_cr l ≡ true in let e = subst P is none in true≢false (sym e)
no_end [] (f ∷ front) none is = absurd cc
no_end (b ∷ bytes) (f ∷ front) none is = let rest : bytes ≡ front ++ 13 ∷ [] = cc in no_end bytes front (and_second (not (eqb b 13)) (has_no_cr bytes) none) rest
  where
    and_second : (p q : Bool) → (p && q) ≡ true → q ≡ true
    and_second true q both = both
    and_second false q both = absurd cc

-- what all lists of a list have, each has
all_at : (xs : List (List ℕ)) (k : ℕ) (x : List ℕ) → list_all has_no_cr xs ≡ true → slice_get xs k ≡ Some x → has_no_cr x ≡ true
all_at [] k x all is = absurd cc
all_at (y ∷ ys) zero x all is = let same : y ≡ x = cc in let P : List ℕ → Type 0 = λ l. has_no_cr l ≡ true in subst P same (and_first (has_no_cr y) (list_all has_no_cr ys) all)
  where
    and_first : (p q : Bool) → (p && q) ≡ true → p ≡ true
    and_first true q both = refl
    and_first false q both = absurd cc
all_at (y ∷ ys) (suc k) x all is = all_at ys k x (and_second (has_no_cr y) (list_all has_no_cr ys) all) is
  where
    and_second : (p q : Bool) → (p && q) ≡ true → q ≡ true
    and_second true q both = both
    and_second false q both = absurd cc

-- no symbol has a CR
symbols-no_cr : list_all has_no_cr symbols ≡ true
unfolding symbols
symbols-no_cr = refl

-- nor have bytes that name an element
named-no_cr : (symbol : List ℕ) (z : ℕ) → NamesElement symbol z → has_no_cr symbol ≡ true
named-no_cr symbol z (inl is) = all_at symbols _ symbol symbols-no_cr is.1
named-no_cr symbol z (inr (one, inl d)) = rw d refl
named-no_cr symbol z (inr (one, inr t)) = rw t refl

-- a molecule's properties hold no text
no_text : (property : Property) → IsOfMolecules property → HoldsNoText property
no_text (kinds.Charge pairs) is = tt
no_text (kinds.Radical pairs) is = tt
no_text (kinds.Isotope pairs) is = tt
no_text other is = absurd is

-- so none ends with CR
no_text_ends : (property : Property) → IsOfMolecules property → EndsWithoutCr property
no_text_ends (kinds.Charge pairs) is = tt
no_text_ends (kinds.Radical pairs) is = tt
no_text_ends (kinds.Isotope pairs) is = tt
no_text_ends other is = absurd is

pub keeps_text : PassingTablesKeepTheirText
keeps_text table atoms properties = (
  record {
    symbols = λ k d below ends.
        let known = all_of IsKnownAtom table.atoms atoms k d below in
        no_end (get_or table.atoms k d).symbol ends.0 (named-no_cr _ known.symbol.element known.symbol.names) ends.1;
    properties = λ k d below. no_text_ends (get_or table.props k d) (all_of IsOfMolecules table.props (λ item. (properties item).1) k d below);
  },
  λ k d below. no_text (get_or table.props k d) (all_of IsOfMolecules table.props (λ item. (properties item).1) k d below),
)

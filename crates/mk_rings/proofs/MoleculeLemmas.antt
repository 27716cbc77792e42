-- Bonds of a molecule with the marks that were computed for them.
use Rattle.std.proofs.Common.{◌≡◌, ◌<◌, ℕ, Bool, false, List, Some, ap, sym, subst, ◌∙◌, length, get_or, arith, IsTrue}
use Rattle.std.specs.Prelude.{◌↔◌, slice_get}
use Rattle.std.proofs.lemmas.List.{length-map}
use Rattle.mk_model.specs.declared.edge.Edge.{Edge}
use Rattle.mk_model.specs.declared.molecule.MolBond.{MolBond}
use Rattle.mk_model.specs.Molecules.{edge_of, edges, HasMarks}
use Rattle.mk_model.specs.Rings.{IsRingBond}
use Rattle.mk_model.specs.Aromatic.{IsAromatic}
use Rattle.mk_model.proofs.ForCallers.{place_is, place_within}
use Rattle.mk_marks.specs.Marks.{Marks}

-- the bonds are these edges, with the marks at their places
pub record HaveMarks (plain : List Edge) (rings aromatics : List Bool) (bonds : List MolBond) : Type 0 where
  pub edges_are : edges bonds ≡ plain
  pub each : (b : ℕ) (d : MolBond) → b < length bonds → ((get_or bonds b d).ring ≡ get_or rings b false) × ((get_or bonds b d).aromatic ≡ get_or aromatics b false)

-- where the marks are those of the definitions, so are those of the bonds
pub have_marks : (plain : List Edge) (rings aromatics : List Bool) (bonds : List MolBond)
    → HaveMarks plain rings aromatics bonds → Marks (IsRingBond plain) plain rings
    → Marks (IsAromatic plain) plain aromatics
    → (b : ℕ) (bond : MolBond) → slice_get bonds b ≡ Some bond → HasMarks plain b bond
have_marks plain rings aromatics bonds are by_ring by_aromatic b bond at =
    let is : get_or bonds b bond ≡ bond = place_is bonds b bond bond at in
    let below : b < length bonds = place_within bonds b bond at in
    let within : b < length plain = omega (arith, length-map bonds edge_of, ap length are.edges_are) in
    let each = are.each b bond below in
    let ring_is : get_or rings b false ≡ bond.ring = sym each.0 ∙ ap (λ (x : MolBond). x.ring) is in
    let aromatic_is : get_or aromatics b false ≡ bond.aromatic = sym each.1 ∙ ap (λ (x : MolBond). x.aromatic) is in
    let P : Bool → Type 0 = λ m. IsTrue m ↔ IsRingBond plain b in
    let Q : Bool → Type 0 = λ m. IsTrue m ↔ IsAromatic plain b in
    record { ring = subst P ring_is (by_ring.each b within); aromatic = subst Q aromatic_is (by_aromatic.each b within) }

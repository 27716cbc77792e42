-- The bond between two atoms of a molecule is the one that is found among the bonds of one of them.
use Rattle.std.proofs.Common.{◌≡◌, ◌≤◌, ◌<◌, ◌+◌, ◌-◌, ℕ, zero, suc, Bool, true, false, List, [], ◌∷◌, Option, Some, None, refl, ap, sym, subst, ◌∙◌, length, get_or, inl, inr, arith}
use Rattle.std.specs.Prelude.{All, Contains, map, slice_get, ◌↔◌}
use Rattle.std.proofs.lemmas.Bool.{cases_lt, true≢false}
use Rattle.std.proofs.lemmas.List.{length-map, get_or-map, get_or_default}
use Rattle.std.proofs.lemmas.List.Elements.{All-from_get_or}
use Rattle.mk_model.specs.declared.edge.Edge.{Edge}
use Rattle.mk_model.specs.declared.molecule.MolBond.{MolBond}
use Rattle.mk_model.specs.Edges.{HasEnds, Joins, numbers_at, touches}
use Rattle.mk_model.specs.Molecules.{Molecule, IsMolecule, IsBondOf, BondAmong, edge_of, edges}
use Rattle.mk_model.proofs.EdgesLemmas.{touches-ends}
use Rattle.mk_model.proofs.ForCallers.{numbers_at-each, numbers_at-all}

-- what stands at a place, as `slice_get` has it
slice_get-at : (xs : List MolBond) (k : ℕ) (d : MolBond) → k < length xs → slice_get xs k ≡ Some (get_or xs k d)
slice_get-at [] k d below = absurd (omega arith)
slice_get-at (x ∷ xs) zero d below = refl
slice_get-at (x ∷ xs) (suc k) d below = slice_get-at xs k d (omega arith)

-- a bond's edge stands at its place
slice_get-edges : (xs : List MolBond) (k : ℕ) (d : MolBond) → k < length xs → slice_get (edges xs) k ≡ Some (edge_of (get_or xs k d))
slice_get-edges [] k d below = absurd (omega arith)
slice_get-edges (x ∷ xs) zero d below = refl
slice_get-edges (x ∷ xs) (suc k) d below = slice_get-edges xs k d (omega arith)

-- a bond of the molecule joins its ends
joins : (mol : Molecule) (a b : ℕ) (bond : MolBond) (is : IsBondOf mol a b bond) → Joins (edges mol.bonds) is.0.0 a b
joins mol a b bond is = record {
  edge = edge_of (get_or mol.bonds is.0.0 bond);
  at = slice_get-edges mol.bonds is.0.0 bond is.0.1;
  ends = rw is.0.2 is.1;
}

-- ---- the search among some numbered bonds

-- a bond with these ends is found
pub found_among : (bonds : List MolBond) (k : ℕ) (d : MolBond) (edge : Edge) (a b : ℕ) → k < length bonds
    → edge ≡ edge_of (get_or bonds k d) → HasEnds edge a b → Contains bonds (get_or bonds k d) × HasEnds (edge_of (get_or bonds k d)) a b
found_among bonds k d edge a b below is ends = ((k, below, get_or_default bonds k (get_or bonds k d) d below), subst (λ (e : Edge). HasEnds e a b) is ends)

-- none of the first so many has these ends
abbrev pub AreOthers : List MolBond → List ℕ → ℕ → ℕ → ℕ → Type 0
AreOthers bonds numbers a b n = (i : ℕ) (bond : MolBond) → i < n → HasEnds (edge_of (get_or bonds (get_or numbers i 0 - 1) bond)) a b → ⊥

-- nor has the next
pub none_among_more : (bonds : List MolBond) (numbers : List ℕ) (n : ℕ) (d : MolBond) (edge : Edge) (a b : ℕ) (is_so : Bool)
    → get_or numbers n 0 - 1 < length bonds → edge ≡ edge_of (get_or bonds (get_or numbers n 0 - 1) d)
    → (HasEnds edge a b → is_so ≡ true) → is_so ≡ false → AreOthers bonds numbers a b n → AreOthers bonds numbers a b (n + 1)
none_among_more bonds numbers n d edge a b is_so within is found not_so none i bond below ends =
    elim (cases_lt i n) [
      | inl before ↦ none i bond before ends
      | inr last ↦
          let same : i ≡ n = omega arith in
          let there : get_or bonds (get_or numbers i 0 - 1) bond ≡ get_or bonds (get_or numbers n 0 - 1) d =
          ap (λ (j : ℕ). get_or bonds (get_or numbers j 0 - 1) bond) same ∙ get_or_default bonds (get_or numbers n 0 - 1) bond d within in
          let here : HasEnds edge a b = subst (λ (e : Edge). HasEnds e a b) (sym is) (subst (λ (x : MolBond). HasEnds (edge_of x) a b) there ends) in
          true≢false (sym (found here) ∙ not_so)
    ]

-- ---- the bond between two atoms

-- the bond that is found is the one between the atoms
pub bond-exact : (mol : Molecule) (a b : ℕ) (r : Option MolBond) → IsMolecule mol
    → BondAmong mol.bonds (numbers_at (edges mol.bonds) a) a b r → (bond : MolBond)
    → (r ≡ Some bond) ↔ IsBondOf mol a b bond
bond-exact mol a b None kept among bond = (
  λ e. cc,
  λ is.
      let k = is.0.0 in
      let below : k < length mol.bonds = is.0.1 in
      let here : get_or mol.bonds k bond ≡ bond = is.0.2 in
      let edge_below : k < length (edges mol.bonds) = omega (arith, length-map mol.bonds edge_of) in
      let edge_is : get_or (edges mol.bonds) k (edge_of bond) ≡ edge_of bond = get_or-map edge_of mol.bonds k bond (edge_of bond) below ∙ ap edge_of here in
      let ends : touches a (get_or (edges mol.bonds) k (edge_of bond)) ≡ true = rw edge_is (touches-ends (edge_of bond) a b is.1) in
      let at = numbers_at-all (edges mol.bonds) a k (edge_of bond) edge_below ends in
      let place : get_or (numbers_at (edges mol.bonds) a) at.0 0 - 1 ≡ k = omega (arith, at.2) in
      absurd (among at.0 bond at.1 (rw (place, here) is.1)),
)
bond-exact mol a b (Some found) kept among bond = (
  λ e. let same : found ≡ bond = cc in let P : MolBond → Type 0 = λ x. IsBondOf mol a b x in subst P same among,
  λ is.
      let k = among.0.0 in
      let l = is.0.0 in
      let same : k ≡ l = kept.graph.once k l a b (joins mol a b found among) (joins mol a b bond is) in
      ap Some (sym among.0.2 ∙ get_or_default mol.bonds k found bond among.0.1 ∙ ap (λ n. get_or mol.bonds n bond) same ∙ is.0.2),
)

-- the numbers of an atom's bonds number bonds, among bonds of any kind that are seen as edges
pub numbers_within : {B : Type 0} (edge : B → Edge) (bonds : List B) (n : ℕ) (numbers : List ℕ) → numbers ≡ numbers_at (map edge bonds) n → All (λ k. (1 ≤ k) × (k ≤ length bonds)) numbers
numbers_within edge bonds n numbers is =
    let each : All (λ k. (1 ≤ k) × (k ≤ length bonds)) (numbers_at (map edge bonds) n) =
    All-from_get_or (λ k. (1 ≤ k) × (k ≤ length bonds)) (numbers_at (map edge bonds) n) 0
    (λ i below.
    let here = numbers_at-each (map edge bonds) n i below in
    (here.least, omega (arith, here.most, length-map bonds edge))) in
    rw is each

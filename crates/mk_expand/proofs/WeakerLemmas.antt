-- A fragment with the tests that stay is one.
--     shared_fragment            it keeps what every fragment keeps
use Rattle.std.proofs.Common.{◌≡◌, ◌∙◌, ℕ, ℤ, pos, negsuc, zero, suc, ◌<◌, ◌≤◌, Bool, true, false, cond, eqb, length, get_or, map, sym, ap, arith}
use Rattle.std.specs.Prelude.{◌≤ℤ◌}
use Rattle.std.proofs.lemmas.Int.{ints}
use Rattle.std.proofs.lemmas.List.{get_or-map, length-map}
use Rattle.std.proofs.lemmas.List.Elements.{All-map}
use Rattle.mk_model.specs.declared.graph.GraphAtom.{GraphAtom}
use Rattle.mk_model.specs.declared.template.QueryBond.{QueryBond}
use Rattle.mk_model.specs.Pieces.{Fragment}
use Rattle.mk_model.specs.Tests.{IsTestInRange}
use Rattle.mk_pieces.specs.Fragments.{HasRange, IsFragment, IsLowerFirst}
use Rattle.mk_expand.specs.OpenGraphs.{shared_atom, shared_bond, shared_kind, shared_rings}

shared_test : (stays : Bool) (atom : GraphAtom) → IsTestInRange atom.test → IsTestInRange (shared_atom stays atom).test
shared_test stays atom is = record {
  kind = is.kind;
  charge = is.charge;
  radical = is.radical;
  hydrogens = is.hydrogens;
  ring_bonds = rings atom.test.ring_bonds is.ring_bonds;
  no_single_ring_bond = single atom.test.ring_bonds is.no_single_ring_bond;
  substitution = is.substitution;
}
  where
    rings : (z : ℤ) → (negsuc 1 ≤ℤ z) × (z ≤ℤ pos 4) → (negsuc 1 ≤ℤ shared_rings stays z) × (shared_rings stays z ≤ℤ pos 4)
    rings (pos n) range = range
    rings (negsuc zero) range = range
    rings (negsuc (suc n)) range = by stays
      where
        by : (t : Bool) → (negsuc 1 ≤ℤ cond t (negsuc (suc n)) (pos 0)) × (cond t (negsuc (suc n)) (pos 0) ≤ℤ pos 4)
        by true = range
        by false = (omega (arith, ints), omega (arith, ints))

    single : (z : ℤ) → (z ≡ pos 1 → ⊥) → shared_rings stays z ≡ pos 1 → ⊥
    single (pos n) never same = never same
    single (negsuc zero) never same = never same
    single (negsuc (suc n)) never same = by stays same
      where
        by : (t : Bool) → cond t (negsuc (suc n)) (pos 0) ≡ pos 1 → ⊥
        by true is = never is
        by false is = omega (arith, ints)

kind_in_range : (stays : Bool) (k : ℕ) → (1 ≤ k) × (k ≤ 8) → (1 ≤ shared_kind stays k) × (shared_kind stays k ≤ 8)
kind_in_range stays k range = by stays (eqb k 1) (eqb k 2)
  where
    by : (t a b : Bool) → (1 ≤ cond t k (cond a 6 (cond b 7 k))) × (cond t k (cond a 6 (cond b 7 k)) ≤ 8)
    by true a b = range
    by false true b = (omega arith, omega arith)
    by false false true = (omega arith, omega arith)
    by false false false = range

-- a part with the tests that stay
abbrev pub with_shared : Bool → Fragment → Fragment
with_shared stays part = record { atoms = map (shared_atom stays) part.atoms; bonds = map (shared_bond stays) part.bonds; points = part.points }

-- a part with the tests that stay keeps it too
pub shared_fragment : (stays : Bool) (part : Fragment) → IsFragment part → IsFragment (with_shared stays part)
shared_fragment stays part fragment = record {
  tests = All-map (λ (atom : GraphAtom). IsTestInRange atom.test) (shared_atom stays) part.atoms (λ i d below. shared_test stays (get_or part.atoms i d) (fragment.tests i d below));
  bond_tests = All-map HasRange (shared_bond stays) part.bonds (λ i d below.
      (let there : HasRange (get_or part.bonds i d) = fragment.bond_tests i d below in
      record { kind = kind_in_range stays (get_or part.bonds i d).kind there.kind; topology = there.topology }));
  ends = All-map (IsLowerFirst (length (map (shared_atom stays) part.atoms))) (shared_bond stays) part.bonds (λ i d below.
      (let there : IsLowerFirst (length part.atoms) (get_or part.bonds i d) = fragment.ends i d below in
      let many = length-map part.atoms (shared_atom stays) in
      record { least = there.least; less = there.less; most = omega (arith, many, there.most) }));
  apart = λ i j d less below first second.
      let inside : j < length part.bonds = omega (arith, below, length-map part.bonds (shared_bond stays)) in
      let one = get_or-map (shared_bond stays) part.bonds i d d (omega (arith, less)) in
      let other = get_or-map (shared_bond stays) part.bonds j d d inside in
      let a : (get_or part.bonds i d).first ≡ (get_or part.bonds j d).first = sym (ap (λ (b : QueryBond). b.first) one) ∙ first ∙ ap (λ (b : QueryBond). b.first) other in
      let c : (get_or part.bonds i d).second ≡ (get_or part.bonds j d).second = sym (ap (λ (b : QueryBond). b.second) one) ∙ second ∙ ap (λ (b : QueryBond). b.second) other in
      fragment.apart i j d less inside a c;
  points = λ k d below. (let there = fragment.points k d below in let many = length-map part.atoms (shared_atom stays) in (there.0, omega (arith, there.1, many)));
}

-- What doesn't depend on the marks.
--     marked_sketch           a sketch is one whatever its marks are
use Rattle.std.proofs.Common.{◌≡◌, ◌<◌, inl, inr, List, length, get_or, sym, ap, subst, ◌∙◌, arith, All}
use Rattle.std.proofs.lemmas.List.Elements.{All-map}
use Rattle.mk_model.specs.declared.graph.GraphAtom.{GraphAtom}
use Rattle.mk_model.specs.declared.graph.GraphBond.{GraphBond}
use Rattle.mk_model.specs.Edges.{IsSimple}
use Rattle.mk_model.specs.Tests.{IsBondInRange}
use Rattle.mk_model.specs.Graphs.{IsBefore, IsUnmarked}
use Rattle.mk_model.proofs.ForCallers.{all_mapped}
use Rattle.mk_marks.specs.Bare.{bare_bond, bare_bonds}
use Rattle.mk_marks.proofs.BareLemmas.{same_at, same_edges, same_length}

-- what holds of each bond whatever its marks are holds of the others that are the same without theirs
all_bare : (P : GraphBond → Type 0) (old new : List GraphBond) → ((bond : GraphBond) → P (bare_bond bond) → P bond)
    → ((bond : GraphBond) → P bond → P (bare_bond bond)) → bare_bonds new ≡ bare_bonds old → All P old → All P new
all_bare P old new to from same all =
    let bare : All (λ bond. P (bare_bond bond)) old = λ k d below. from (get_or old k d) (all k d below) in
    let moved : All P (bare_bonds new) = rw same (All-map P bare_bond old bare) in
    λ k d below. to (get_or new k d) (all_mapped bare_bond P new moved k d below)

-- the order
before_bare : (b c b' c' : GraphBond) → bare_bond b' ≡ bare_bond b → bare_bond c' ≡ bare_bond c → IsBefore b c → IsBefore b' c'
before_bare b c b' c' first second before =
    let f : b'.first ≡ b.first = ap (λ (x : GraphBond). x.first) first in
    let g : c'.first ≡ c.first = ap (λ (x : GraphBond). x.first) second in
    let h : b'.second ≡ b.second = ap (λ (x : GraphBond). x.second) first in
    let i : c'.second ≡ c.second = ap (λ (x : GraphBond). x.second) second in
    elim before [
      | inl less ↦ inl (omega arith)
      | inr same ↦ inr (f ∙ same.0 ∙ sym g, omega (arith, same.1))
    ]

-- a sketch is one whatever its marks are
pub marked_sketch : (atoms : List GraphAtom) (old new : List GraphBond) → bare_bonds new ≡ bare_bonds old
    → IsUnmarked (record { atoms = atoms; bonds = old }) → IsUnmarked (record { atoms = atoms; bonds = new })
marked_sketch atoms old new same is = record {
  few = is.few;
  tests = is.tests;
  bond_tests = all_bare (λ bond. IsBondInRange bond.kind bond.topology) old new
      (λ bond r. record { kind = r.kind; topology = r.topology })
      (λ bond r. record { kind = r.kind; topology = r.topology }) same is.bond_tests;
  graph = subst (IsSimple (length atoms)) (sym (same_edges old new same)) is.graph;
  lower_first = all_bare (λ bond. bond.first < bond.second) old new (λ bond h. h) (λ bond h. h) same is.lower_first;
  order = λ i j d below within.
      let long = same_length old new same in
      before_bare (get_or old i d) (get_or old j d) (get_or new i d) (get_or new j d) (same_at old new i d same (omega arith)) (same_at old new j d same within) (is.order i j d below (omega arith));
}

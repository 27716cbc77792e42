-- A sketch whose bonds are marked is a graph.
--     put_none, put_more      the marks that are put so far
--     marked_drawing          and a graph with the marks of its own bonds
use Rattle.std.proofs.Common.{◌≡◌, ℕ, ◌+◌, ◌<◌, inl, inr, Bool, false, List, length, get_or, set, refl, sym, ap, subst, ◌∙◌, arith, length-set, get_or-set_other, get_or-set_same}
use Rattle.std.specs.Prelude.{◌↔◌, IsTrue}
use Rattle.std.proofs.lemmas.Bool.{cases_eq}
use Rattle.std.proofs.lemmas.List.{length-map}
use Rattle.std.proofs.Math.Seq.{map-set_same}
use Rattle.mk_model.specs.declared.edge.Edge.{Edge}
use Rattle.mk_model.specs.declared.graph.GraphAtom.{GraphAtom}
use Rattle.mk_model.specs.declared.graph.GraphBond.{GraphBond}
use Rattle.mk_model.specs.Rings.{IsRingBond}
use Rattle.mk_model.specs.Aromatic.{IsAromatic}
use Rattle.mk_model.specs.Graphs.{HasGraphMarks, IsGraph, IsUnmarked, graph_edge, graph_edges}
use Rattle.mk_model.proofs.ForCallers.{place_is, place_within}
use Rattle.mk_marks.specs.Bare.{bare_bond, bare_bonds}
use Rattle.mk_marks.specs.Marks.{Marks}
use Rattle.mk_marks.proofs.BareLemmas.{same_edges, same_length}
use Rattle.mk_marks.proofs.SketchLemmas.{marked_sketch}

-- ---- putting the marks

-- the bonds up to this place have their marks, and nothing else has changed
pub record HasPut (rings aromatics : List Bool) (old new : List GraphBond) (b : ℕ) : Type 0 where
  pub size : length new ≡ length old
  pub same : bare_bonds new ≡ bare_bonds old
  pub ring : (k : ℕ) (d : GraphBond) → k < b → k < length new → (get_or new k d).ring ≡ get_or rings k false
  pub aromatic : (k : ℕ) (d : GraphBond) → k < b → k < length new → (get_or new k d).aromatic ≡ get_or aromatics k false

pub put_none : (rings aromatics : List Bool) (old : List GraphBond) → HasPut rings aromatics old old 0
put_none rings aromatics old = record { size = refl; same = refl; ring = λ k d below within. absurd (omega arith); aromatic = λ k d below within. absurd (omega arith) }

pub put_more : (rings aromatics : List Bool) (old new : List GraphBond) (b : ℕ) (bond d : GraphBond) → b < length new
    → bond ≡ record (get_or new b d) { ring = get_or rings b false; aromatic = get_or aromatics b false }
    → HasPut rings aromatics old new b → HasPut rings aromatics old (set new b bond) (b + 1)
put_more rings aromatics old new b bond d within is put = record {
  size = length-set new b bond ∙ put.size;
  same = map-set_same bare_bond new b bond d (ap bare_bond is) ∙ put.same;
  ring = λ k e below inside.
      elim (cases_eq k b) [
        | inl here ↦ rw (here, get_or-set_same new b bond e within) (ap (λ (x : GraphBond). x.ring) is)
        | inr other ↦ rw (get_or-set_other new b k bond e other) (put.ring k e (omega arith) (omega (arith, length-set new b bond)))
      ];
  aromatic = λ k e below inside.
      elim (cases_eq k b) [
        | inl here ↦ rw (here, get_or-set_same new b bond e within) (ap (λ (x : GraphBond). x.aromatic) is)
        | inr other ↦ rw (get_or-set_other new b k bond e other) (put.aromatic k e (omega arith) (omega (arith, length-set new b bond)))
      ];
}

-- ---- the graph

-- a mark is what the definition says
mark_is : (b : ℕ) (mark : Bool) (marks : List Bool) (P : ℕ → Type 0) → mark ≡ get_or marks b false → IsTrue (get_or marks b false) ↔ P b → IsTrue mark ↔ P b
mark_is b mark marks P is exact = (λ true. exact.0 (sym is ∙ true), λ holds. is ∙ exact.1 holds)

-- the marks are those of the bonds
pub marked_drawing : (atoms : List GraphAtom) (old new : List GraphBond) (rings aromatics : List Bool) → bare_bonds new ≡ bare_bonds old → IsUnmarked (record { atoms = atoms; bonds = old })
    → Marks (IsRingBond (graph_edges old)) (graph_edges old) rings → Marks (IsAromatic (graph_edges old)) (graph_edges old) aromatics
    → ((b : ℕ) (d : GraphBond) → b < length new → (get_or new b d).ring ≡ get_or rings b false) → ((b : ℕ) (d : GraphBond) → b < length new → (get_or new b d).aromatic ≡ get_or aromatics b false)
    → IsGraph (record { atoms = atoms; bonds = new })
marked_drawing atoms old new rings aromatics same is by_ring by_aromatic ring aromatic = record {
  sketch = marked_sketch atoms old new same is;
  marks = λ b bond at.
      let below : b < length new = place_within new b bond at in
      let there : get_or new b bond ≡ bond = place_is new b bond bond at in
      let edges : graph_edges old ≡ graph_edges new = sym (same_edges old new same) in
      let inside : b < length (graph_edges old) = (let long = same_length old new same in omega (arith, length-map old graph_edge)) in
      subst (λ (es : List Edge). HasGraphMarks es b bond) edges (record {
        ring = mark_is b bond.ring rings (IsRingBond (graph_edges old)) (sym (ap (λ (x : GraphBond). x.ring) there) ∙ ring b bond below) (by_ring.each b inside);
        aromatic = mark_is b bond.aromatic aromatics (IsAromatic (graph_edges old)) (sym (ap (λ (x : GraphBond). x.aromatic) there) ∙ aromatic b bond below) (by_aromatic.each b inside);
      });
}

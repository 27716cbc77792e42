-- A molecule in which a graph has an embedding covers the graph's need.
--     covers_of_embedding, covers_of_hit      for lists of any kind
--     loses_no_hit      the law
use Rattle.std.proofs.Common.{◌≡◌, ℕ, ◌+◌, ◌<◌, ◌≤◌, inl, inr, Bool, true, eqb, leb, List, [], ◌∷◌, length, get_or, map, min, refl, sym, ap, ◌∙◌, arith}
use Rattle.std.specs.Prelude.{count_by}
use Rattle.std.proofs.lemmas.Bool.{agree_below_at, leb-true}
use Rattle.std.proofs.lemmas.List.{get_or-map}
use Rattle.mk_model.specs.Graphs.{GraphView}
use Rattle.mk_model.specs.Hits.{IsEmbedding, IsHit}
use Rattle.mk_model.specs.Molecules.{Molecule}
use Rattle.mk_model.specs.declared.screen.Screen.{Screen}
use Rattle.mk_model.specs.Screens.{Covers, IsNeedOf, IsScreenOf, ScreeningLosesNoHit, capped_count, counted, shown_by_graph, shown_by_mol}
use Rattle.mk_model.proofs.ForCallers.{embedding_of}
use Rattle.mk_screen.proofs.ImageLemmas.{bit_of_image}
use Rattle.mk_screen.proofs.CountLemmas.{enough}

-- none of the elements that are counted is hydrogen
counted_named : (i : ℕ) → i < 16 → 2 ≤ get_or counted i 0
counted_named i below = leb-true 2 (get_or counted i 0) (agree_below_at (λ k. leb 2 (get_or counted k 0)) (λ k. true) 16 i refl below)

-- what is asked for is there
pub covers_of_embedding : (graph : GraphView) (mol : Molecule) (images : List ℕ) (held need : Screen) → IsEmbedding graph mol images → IsScreenOf mol held → IsNeedOf graph need → Covers held need
covers_of_embedding graph mol images held need is of_mol of_graph = record {
  counts = λ i below. (
      let z = get_or counted i 0 in
      let asked : get_or need.counts i 0 ≡ capped_count (shown_by_graph graph).elements z =
      ap (λ (xs : List ℕ). get_or xs i 0) of_graph.counts
      ∙ get_or-map (capped_count (shown_by_graph graph).elements) counted i 0 0 below in
      let there : get_or held.counts i 0 ≡ capped_count (shown_by_mol mol).elements z =
      ap (λ (xs : List ℕ). get_or xs i 0) of_mol.counts
      ∙ get_or-map (capped_count (shown_by_mol mol).elements) counted i 0 0 below in
      omega (arith, asked, there, enough graph mol z (counted_named i below) images is));
  bits = λ b below set. (of_mol.bits b below).1 (bit_of_image graph mol images is b ((of_graph.bits b below).0 set));
}

-- and so it is where there is a hit
pub covers_of_hit : (graph : GraphView) (mol : Molecule) (hit : List ℕ) (held need : Screen) → IsHit graph mol hit → IsScreenOf mol held → IsNeedOf graph need → Covers held need
covers_of_hit graph mol hit held need is of_mol of_graph = covers_of_embedding graph mol hit held need (embedding_of graph mol hit is) of_mol of_graph

pub loses_no_hit : ScreeningLosesNoHit
loses_no_hit graph mol hit held need drawn kept is of_mol of_graph = covers_of_hit graph mol hit held need is of_mol of_graph

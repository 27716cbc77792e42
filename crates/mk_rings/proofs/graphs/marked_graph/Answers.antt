use Rattle.std.proofs.Common.{◌≡◌, ◌∙◌, false, List, ap, arith, get_or, length, subst, sym}
use Rattle.mk_model.specs.declared.edge.Edge.{Edge}
use Rattle.mk_model.specs.Aromatic.{IsAromatic}
use Rattle.mk_model.specs.Edges.{rows_of}
use Rattle.mk_model.specs.Graphs.{graph_edges}
use Rattle.mk_model.specs.Rings.{IsRingBond}
use Rattle.mk_marks.specs.Marks.{Marks}
use Rattle.mk_marks.proofs.BareLemmas.{same_edges}
use Rattle.mk_rings.proofs.GraphLemmas.{marked_drawing}
use Rattle.mk_rings.proofs.graphs.marked_graph.Goals as goal

pub over-requires-clause-graph : goal.over-requires-clause-graph
over-requires-clause-graph c =
    let bonds = c.args.bonds.items in
    let edges : c.in_ok-edges.edges.items ≡ graph_edges bonds = c.in_ok-edges.ensures ∙ ap graph_edges c.deref.ensures.value in
    marked_drawing c.args.atoms.items bonds c.put_marks.new.bonds.items c.in_ok-rings.rings.items c.in_ok-aromatics.aromatics.items c.put_marks.ensures.same c.requires
    (subst (λ (es : List Edge). Marks (IsRingBond es) es c.in_ok-rings.rings.items) (c.deref-3.ensures.value ∙ edges) c.in_ok-rings.ensures)
    (subst (λ (es : List Edge). Marks (IsAromatic es) es c.in_ok-aromatics.aromatics.items) (c.deref-4.ensures.value ∙ edges) c.in_ok-aromatics.ensures)
    (λ b d below. c.put_marks.ensures.ring b d below ∙ ap (λ marks. get_or marks b false) c.deref-6.ensures.value)
    (λ b d below. c.put_marks.ensures.aromatic b d below ∙ ap (λ marks. get_or marks b false) c.deref-7.ensures.value)

pub over-requires-clause-rows : goal.over-requires-clause-rows
over-requires-clause-rows c =
    let bonds = c.args.bonds.items in
    let count : c.len-count.result ≡ length c.args.atoms.items = omega arith in
    let given : c.deref-2.result.now ≡ graph_edges bonds = c.deref-2.ensures.value ∙ c.in_ok-edges.ensures ∙ ap graph_edges c.deref.ensures.value in
    let marked : graph_edges c.put_marks.new.bonds.items ≡ graph_edges bonds = same_edges bonds c.put_marks.new.bonds.items c.put_marks.ensures.same in
    c.in_ok-near.ensures ∙ ap (λ n. rows_of n c.deref-2.result.now) count ∙ ap (λ (es : List Edge). rows_of (length c.args.atoms.items) es) (given ∙ sym marked)

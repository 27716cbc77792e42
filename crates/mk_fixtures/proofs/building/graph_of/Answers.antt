use Rattle.std.proofs.Common.{◌≡◌, ◌∙◌, ap, length, arith}
use Rattle.mk_model.specs.Graphs.{graph_edges}
use Rattle.mk_fixtures.proofs.FixtureLemmas.{graph-built}
use Rattle.mk_fixtures.proofs.building.graph_of.Goals as goal

pub marked_graph-requires : goal.marked_graph-requires
marked_graph-requires c =
    let drawn : c.in_ok-drawn.drawn.items ≡ graph_edges c.args.bonds.items = c.in_ok-drawn.ensures ∙ ap graph_edges c.deref-3.ensures.value in
    let size : c.len-2.result ≡ length c.args.atoms.items = omega arith in
    graph-built c.args.atoms.items c.args.bonds.items
    (omega arith)
    (rw c.deref.ensures.value at (c.have_tests.ensures c.if-not-have_tests.false))
    (rw c.deref-2.ensures.value at (c.have_bond_tests.ensures c.if-not-have_bond_tests.false))
    (rw (c.deref-4.ensures.value, drawn, size) at (c.is_graph.ensures c.if-not-is_graph.false))
    (rw (c.deref-5.ensures.value, drawn) at (c.are_ordered.ensures.lower_first c.if-not-are_ordered.false))
    (rw (c.deref-5.ensures.value, drawn) at (c.are_ordered.ensures.order c.if-not-are_ordered.false))

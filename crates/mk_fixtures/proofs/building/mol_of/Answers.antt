use Rattle.std.proofs.Common.{◌≡◌, ◌∙◌, ap, arith, length, sym}
use Rattle.mk_model.specs.Edges.{rows_of}
use Rattle.mk_model.specs.Molecules.{Molecule, edges}
use Rattle.mk_fixtures.proofs.FixtureLemmas.{molecule-built}
use Rattle.mk_fixtures.proofs.building.mol_of.Goals as goal

pub of-requires-clause-ends : goal.of-requires-clause-ends
of-requires-clause-ends c = (c.is_graph.ensures c.if-not-is_graph.false).ends

pub marked_bonds-requires-clause-simple : goal.marked_bonds-requires-clause-simple
marked_bonds-requires-clause-simple c = c.is_graph.ensures c.if-not-is_graph.false

pub over-requires-clause-molecule : goal.over-requires-clause-molecule
over-requires-clause-molecule c =
    molecule-built c.len-count.result c.args.atoms.items c.args.drawn.now c.in_ok-bonds.bonds.items
    (omega arith) (omega arith) (omega arith)
    (rw c.deref.ensures.value at (c.have_elements.ensures c.if-not-have_elements.false))
    (c.is_graph.ensures c.if-not-is_graph.false)
    c.in_ok-bonds.ensures.edges c.in_ok-bonds.ensures.marks

pub over-requires-clause-rows : goal.over-requires-clause-rows
over-requires-clause-rows c =
    let count : c.len-count.result ≡ length c.args.atoms.items = omega arith in
    c.in_ok-near.ensures.rows ∙ ap (λ n. rows_of n c.args.drawn.now) count ∙ ap (λ es. rows_of (length c.args.atoms.items) es) (sym c.in_ok-bonds.ensures.edges)

pub returns-clause-bonds : goal.returns-clause-bonds
returns-clause-bonds c = ap (λ (mol : Molecule). edges mol.bonds) c.over.ensures ∙ c.in_ok-bonds.ensures.edges

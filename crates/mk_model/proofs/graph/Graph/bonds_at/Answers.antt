use Rattle.std.proofs.Common.{◌≡◌, ◌+◌, ◌-◌, ◌∙◌, Some, ap, subst, sym, length, arith}
use Rattle.std.specs.Prelude.{slice_get}
use Rattle.mk_model.specs.Edges.{rows_of, numbers_at}
use Rattle.mk_model.specs.Graphs.{IsGraph, graph_edge, graph_edges}
use Rattle.mk_model.proofs.EdgesLemmas.{length-rows_of, slice_get-rows_of}
use Rattle.mk_model.proofs.MoleculesLemmas.{numbers_within}
use Rattle.mk_model.proofs.graph.Graph.bonds_at.Goals as goal

pub at-requires-clause-most : goal.at-requires-clause-most
at-requires-clause-most c =
    let rows : c.self.inside.neighbours ≡ rows_of (length c.self.inside.atoms.items) (graph_edges c.self.inside.bonds.items) = c.self.invariant.rows in
    let atoms : length c.self.inside.atoms.items ≡ length c.args.self.now.atoms = ap (λ m. length m.atoms) c.self.view_is in
    omega (arith, ap length rows, length-rows_of (length c.self.inside.atoms.items) (graph_edges c.self.inside.bonds.items), atoms)

numbers : goal.returns-clause-numbers
numbers c =
    let rows : c.self.inside.neighbours ≡ rows_of (length c.self.inside.atoms.items) (graph_edges c.self.inside.bonds.items) = c.self.invariant.rows in
    let atoms : length c.self.inside.atoms.items ≡ length c.args.self.now.atoms = ap (λ m. length m.atoms) c.self.view_is in
    let bonds : graph_edges c.self.inside.bonds.items ≡ graph_edges c.args.self.now.bonds = ap (λ m. graph_edges m.bonds) c.self.view_is in
    let there = slice_get-rows_of (length c.self.inside.atoms.items) (graph_edges c.self.inside.bonds.items) (c.args.x - 1) (omega arith) in
    let number : c.args.x - 1 + 1 ≡ c.args.x = omega arith in
    let same : Some c.at.result.now ≡ Some (numbers_at (graph_edges c.self.inside.bonds.items) (c.args.x - 1 + 1)) =
    sym c.at.ensures ∙ ap (λ xs. slice_get xs (c.args.x - 1)) rows ∙ there in
    let list : c.at.result.now ≡ numbers_at (graph_edges c.self.inside.bonds.items) (c.args.x - 1 + 1) = cc in
    list ∙ ap (numbers_at (graph_edges c.self.inside.bonds.items)) number ∙ ap (λ xs. numbers_at xs c.args.x) bonds

pub returns-clause-numbers : goal.returns-clause-numbers
returns-clause-numbers c = numbers c

pub returns-clause-within : goal.returns-clause-within
returns-clause-within c = numbers_within graph_edge c.args.self.now.bonds c.args.x _ (numbers c)

pub returns-clause-kept : goal.returns-clause-kept
returns-clause-kept c = subst IsGraph c.self.view_is c.self.invariant.holds

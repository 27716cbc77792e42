use Rattle.std.proofs.Common.{◌∙◌, ap, map}
use Rattle.mk_pieces.specs.Fragments.{bare}
use Rattle.mk_pieces.proofs.ForCallers.{root_small}
use Rattle.mk_expand.specs.OpenGraphs.{shared_atom, shared_bond}
use Rattle.mk_expand.proofs.MadeLemmas.{bare_twice, made_graph, made_ordered, made_sketch, open_begins}
use Rattle.mk_expand.proofs.open_graphs.open_graph.Goals as goal

pub opened_by-requires-clause-small : goal.opened_by-requires-clause-small
opened_by-requires-clause-small c = root_small _ c.templates-kept.ensures.kept

pub opened_by-requires-clause-begins : goal.opened_by-requires-clause-begins
opened_by-requires-clause-begins c = open_begins c.args.query.now c.args.open.now c.requires

pub marked_graph-requires : goal.marked_graph-requires
marked_graph-requires c =
    let query = c.args.query.now in
    let kept = c.templates-kept.ensures.kept in
    let opened_so = c.in_ok-part.ensures.is in
    let part = c.in_ok-part.part in
    let bonds = c.in_ok-drawn.ensures ∙ bare_twice _ _ ∙ ap (λ bs. map bare (map (shared_bond c.in_ok-part.read.one_ended) bs)) (c.deref.ensures.value ∙ c.into_lists-atoms.ensures.bonds) in
    let has = made_ordered query kept c.args.open.now _ part _ opened_so _ _ bonds c.put_in_order.ensures.same c.put_in_order.ensures.order in
    rw (c.in_ok-shared.ensures, c.into_lists-atoms.ensures.atoms) (made_sketch query kept c.args.open.now _ part _ opened_so _ has)

pub returns : goal.returns
returns c =
    let query = c.args.query.now in
    let kept = c.templates-kept.ensures.kept in
    let opened_so = c.in_ok-part.ensures.is in
    let part = c.in_ok-part.part in
    let bonds = c.in_ok-drawn.ensures ∙ bare_twice _ _ ∙ ap (λ bs. map bare (map (shared_bond c.in_ok-part.read.one_ended) bs)) (c.deref.ensures.value ∙ c.into_lists-atoms.ensures.bonds) in
    made_graph query kept c.args.open.now _ part _ opened_so c.requires _ _ bonds c.put_in_order.ensures.same c.in_ok-graph.graph c.atom_count-count.ensures.kept
    (c.in_ok-graph.ensures.atoms ∙ c.in_ok-shared.ensures ∙ ap (map (shared_atom c.in_ok-part.read.one_ended)) c.into_lists-atoms.ensures.atoms) c.in_ok-graph.ensures.bonds

use Rattle.std.proofs.Common.{◌∙◌, ap, map}
use Rattle.mk_pieces.specs.Fragments.{bare}
use Rattle.mk_pieces.proofs.ForCallers.{fragment_sketch, graph_of, put_ordered, root_small, taken_few, taken_fragment}
use Rattle.mk_expand.proofs.DecidedLemmas.{decided_begins, decided_expanded}
use Rattle.mk_expand.proofs.expanding.expand.Goals as goal

pub opened_by-requires-clause-small : goal.opened_by-requires-clause-small
opened_by-requires-clause-small c = root_small _ c.templates-kept.ensures.kept

pub opened_by-requires-clause-begins : goal.opened_by-requires-clause-begins
opened_by-requires-clause-begins c = decided_begins c.args.query.now c.args.code.now c.requires

pub marked_graph-requires : goal.marked_graph-requires
marked_graph-requires c =
    let query = c.args.query.now in
    let kept = c.templates-kept.ensures.kept in
    let part = c.in_ok-part.part in
    let taken = decided_expanded query kept c.args.code.now _ part _ c.requires c.in_ok-part.ensures.is in
    let bonds = c.in_ok-drawn.ensures ∙ ap (map bare) (c.deref.ensures.value ∙ c.into_lists-atoms.ensures.bonds) in
    let has = put_ordered query kept c.args.code.now _ part taken _ _ bonds c.put_in_order.ensures.same c.put_in_order.ensures.order in
    rw c.into_lists-atoms.ensures.atoms (fragment_sketch part (taken_fragment query kept c.args.code.now _ part taken) (taken_few query kept c.args.code.now _ part taken) _ has)

pub returns : goal.returns
returns c =
    let query = c.args.query.now in
    let kept = c.templates-kept.ensures.kept in
    let part = c.in_ok-part.part in
    let taken = decided_expanded query kept c.args.code.now _ part _ c.requires c.in_ok-part.ensures.is in
    let bonds = c.in_ok-drawn.ensures ∙ ap (map bare) (c.deref.ensures.value ∙ c.into_lists-atoms.ensures.bonds) in
    let has = put_ordered query kept c.args.code.now _ part taken _ _ bonds c.put_in_order.ensures.same c.put_in_order.ensures.order in
    graph_of query kept c.args.code.now _ part taken c.requires _ has c.in_ok-graph.graph c.atom_count-count.ensures.kept
    (c.in_ok-graph.ensures.atoms ∙ c.into_lists-atoms.ensures.atoms) c.in_ok-graph.ensures.bonds

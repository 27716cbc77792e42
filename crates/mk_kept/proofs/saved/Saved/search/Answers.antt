use Rattle.std.proofs.Common.{◌≡◌, true, None, Some, subst}
use Rattle.mk_kept.specs.Saved.{SavedView, is_named, rows_of}
use Rattle.mk_kept.specs.Named.{search_of}
use Rattle.mk_kept.proofs.NamedLemmas.{if_none, if_some, search_found, search_none}
use Rattle.mk_kept.proofs.saved.Saved.search.Goals as goal

pub returns-clause-some : goal.returns-clause-some
returns-clause-some c =
    if_some _ _ c.get.result
    (λ search is.
    subst (λ (v : SavedView). search_of c.args.number v.cursors ≡ Some (record { number = c.args.number; name = search.now.name; place = search.now.place })) c.self.view_is
    (search_found c.args.number c.self.inside.next_cursor (rows_of c.self.inside.queries.entries) c.self.inside.cursors.rows search.now c.self.invariant.searches is).0)
    c.get.ensures.some

pub returns-clause-named : goal.returns-clause-named
returns-clause-named c =
    if_some _ _ c.get.result
    (λ search is.
    subst (λ (v : SavedView). is_named search.now.name v.queries ≡ true) c.self.view_is
    (search_found c.args.number c.self.inside.next_cursor (rows_of c.self.inside.queries.entries) c.self.inside.cursors.rows search.now c.self.invariant.searches is).1)
    c.get.ensures.some

pub returns-clause-short : goal.returns-clause-short
returns-clause-short c =
    if_some _ _ c.get.result
    (λ search is. (search_found c.args.number c.self.inside.next_cursor (rows_of c.self.inside.queries.entries) c.self.inside.cursors.rows search.now c.self.invariant.searches is).2)
    c.get.ensures.some

pub returns-clause-none : goal.returns-clause-none
returns-clause-none c =
    if_none c.get.result
    (λ none. subst (λ (v : SavedView). search_of c.args.number v.cursors ≡ None) c.self.view_is (search_none c.args.number c.self.inside.cursors.rows none))
    c.get.ensures.none

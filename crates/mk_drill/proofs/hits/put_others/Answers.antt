use Rattle.std.proofs.Common.{List, ℕ, subst}
use Rattle.mk_search.specs.Pages.{IsHeldIn, IsPage}
use Rattle.mk_drill.proofs.HitsLemmas.{listed_all, listed_more}
use Rattle.mk_drill.proofs.hits.put_others.Goals as goal

pub returns-then-listed : goal.returns-then-listed
returns-then-listed g c =
    rw (c.in_ok-append.ensures.items, c.into_vec-keys.ensures)
    (listed_all c.args.shelf.now.rows c.args.query.now c.args.place c.args.hits.now.items c.loop-from.hits.items c.loop-from.from c.in_ok-listed.listed
    (subst (λ (place : List ℕ). IsPage (IsHeldIn c.args.shelf.now.rows) c.args.query.now place 100
    c.in_ok-listed.listed) c.as_slice.ensures c.in_ok-listed.ensures.page) c.if-listed.true c.loop-from.invariant)

pub loop-from-preserved : goal.loop-from-preserved
loop-from-preserved g c =
    rw (c.in_ok-append.ensures.items, c.into_vec-keys.ensures)
    (listed_more c.args.shelf.now.rows c.args.query.now c.args.place c.args.hits.now.items c.loop-from.hits.items c.loop-from.from c.in_ok-listed.listed
    (subst (λ (place : List ℕ). IsPage (IsHeldIn c.args.shelf.now.rows) c.args.query.now place 100 c.in_ok-listed.listed) c.as_slice.ensures c.in_ok-listed.ensures.page) c.loop-from.invariant)

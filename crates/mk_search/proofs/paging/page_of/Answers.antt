use Rattle.std.proofs.Common.{◌≡◌, ◌+◌, ◌∷◌, ◌++◌, [], length, length-append, refl, arith}
use Rattle.mk_search.proofs.HitsLemmas.{begins_all, begins_full, page_all, page_full, page_more, page_none}
use Rattle.mk_search.proofs.paging.page_of.Goals as goal

pub loop-hits-init : goal.loop-hits-init
loop-hits-init g c =
    let hits = c.args.hits.now in
    rw c.new-keys.ensures.items (record {
      keys = page_none hits.rows hits.query hits.place c.args.steps.now hits c.requires.made;
      few = omega arith;
      steps = omega arith;
    })

pub loop-hits-preserved : goal.loop-hits-preserved
loop-hits-preserved g c =
    let hits = c.args.hits.now in
    let inv = c.loop-hits.invariant in
    let keys = c.loop-hits.keys.items in
    let key = c.in-Some.key in
    let t = rw c.in-Some.is at c.in_ok-key.ensures.next in
    let long : length (keys ++ key ∷ []) ≡ length keys + 1 = length-append keys (key ∷ []) in
    rw c.in_ok-push.ensures.items (record {
      keys = page_more hits.rows hits.query hits.place c.args.steps.now c.loop-hits.hits keys c.loop-hits.steps inv.keys c.next.new.self key c.next.new.steps t;
      few = omega (arith, long, c.loop-hits-test.true);
      steps = omega (arith, inv.steps, c.next.ensures.steps);
    })

pub returns-in_default-clause-page : goal.returns-in_default-clause-page
returns-in_default-clause-page g c =
    let hits = c.args.hits.now in
    let t = rw c.in_default.is at c.in_ok-key.ensures.next in
    page_all hits.rows hits.query hits.place c.args.steps.now c.loop-hits.hits c.loop-hits.keys.items c.loop-hits.steps c.loop-hits.invariant.keys
    c.next.new.self c.next.new.steps t
    _ c.args.limit c.of.ensures c.in_ok-place.ensures refl (omega (arith, c.loop-hits-test.true))

pub returns-in_default-clause-begins : goal.returns-in_default-clause-begins
returns-in_default-clause-begins g c =
    let hits = c.args.hits.now in
    let t = rw c.in_default.is at c.in_ok-key.ensures.next in
    begins_all hits.rows hits.query hits.place c.args.steps.now c.loop-hits.hits c.loop-hits.keys.items c.loop-hits.steps c.loop-hits.invariant.keys
    c.next.new.self c.next.new.steps t
    _ c.of.ensures refl

pub returns-clause-page : goal.returns-clause-page
returns-clause-page g c =
    let hits = c.args.hits.now in
    page_full hits.rows hits.query hits.place c.args.steps.now c.loop-hits.hits c.loop-hits.keys.items c.loop-hits.steps c.loop-hits.invariant.keys
    _ c.args.limit c.of-2.ensures c.in_ok-place-2.ensures refl (omega (arith, c.loop-hits.invariant.few, c.loop-hits-test.false))

pub returns-clause-begins : goal.returns-clause-begins
returns-clause-begins g c =
    let hits = c.args.hits.now in
    begins_full hits.rows hits.query hits.place c.args.steps.now c.loop-hits.hits c.loop-hits.keys.items c.loop-hits.steps c.loop-hits.invariant.keys
    _ c.of-2.ensures (omega (arith, c.requires.least, c.loop-hits-test.false))

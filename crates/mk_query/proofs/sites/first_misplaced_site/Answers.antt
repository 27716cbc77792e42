use Rattle.std.proofs.Common.{◌+◌, arith}
use Rattle.mk_query.proofs.NumberedLemmas.{numbered-more, numbered-fail, numbered-all}
use Rattle.mk_query.proofs.SiteLemmas.{HasPlace, place_right, place_wrong, near_at}
use Rattle.mk_query.proofs.sites.first_misplaced_site.Goals as goal

pub returns-then-not-is_placed : goal.returns-then-not-is_placed
returns-then-not-is_placed c =
    let standing = c.args.notes.now.standing in
    let are = c.args.notes.now.are in
    let near = near_at c.args.notes.now.table.now standing.near.items c.loop-i.i c.index.result.now
    (omega (arith, are.near_size, rw c.as_slice-atoms.ensures at c.loop-i-test.true)) are.near_are c.index.ensures in
    numbered-fail (HasPlace c.args.notes.now.table.now) c.args.notes.now.table.now.atoms c.loop-i.i c.index-atoms-i.result
    (rw c.as_slice-atoms.ensures at c.loop-i-test.true) (rw c.as_slice-atoms.ensures at c.index-atoms-i.is)
    (place_wrong c.args.notes.now.table.now standing.sites.items (c.loop-i.i + 1) c.index-atoms-i.result c.index.result.now
    c.is_placed.result are.sites_are near (rw c.deref.ensures.value at c.is_placed.ensures) c.if-not-is_placed.true)
    c.loop-i.invariant

pub loop-i-preserved : goal.loop-i-preserved
loop-i-preserved c =
    let standing = c.args.notes.now.standing in
    let are = c.args.notes.now.are in
    let near = near_at c.args.notes.now.table.now standing.near.items c.loop-i.i c.index.result.now
    (omega (arith, are.near_size, rw c.as_slice-atoms.ensures at c.loop-i-test.true)) are.near_are c.index.ensures in
    numbered-more (HasPlace c.args.notes.now.table.now) c.args.notes.now.table.now.atoms c.loop-i.i c.index-atoms-i.result (rw c.as_slice-atoms.ensures at c.index-atoms-i.is)
    (place_right c.args.notes.now.table.now standing.sites.items (c.loop-i.i + 1) c.index-atoms-i.result c.index.result.now
    c.is_placed.result are.sites_are near (rw c.deref.ensures.value at c.is_placed.ensures) c.if-not-is_placed.false)
    c.loop-i.invariant

pub returns : goal.returns
returns c = numbered-all (HasPlace c.args.notes.now.table.now) c.args.notes.now.table.now.atoms c.loop-i.i (rw c.as_slice-atoms.ensures at c.loop-i-test.false) c.loop-i.invariant

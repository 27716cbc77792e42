use Rattle.std.proofs.Common.{◌<◌, ◌≤◌, ◌-◌, ◌∙◌, inl, true, false, length, arith, sym}
use Rattle.mk_query.proofs.FollowLemmas.{followed-all, followed-dealt, followed-first, followed-seen, reached_read, step_within}
use Rattle.mk_query.proofs.blocks.follow.Goals as goal
use Rattle.mk_query.proofs.blocks.follow.Goals.{After-other_end-z}

-- the other end is an atom
within : (c : After-other_end-z) → (1 ≤ c.other_end-z.result) × (c.other_end-z.result ≤ length c.args.reached.now.items - 1)
within c =
    step_within c.args.bonds.now c.args.link (length c.args.reached.now.items - 1) c.args.y c.args.numbers.now
    c.args.reached.now.items c.args.queue.now.items c.loop-number.number-index _ c.other_end-z.result
    c.requires.ends c.requires.numbers c.loop-number-test.true c.other_end-z.ensures.first c.other_end-z.ensures.second

pub index-requires : goal.index-requires
index-requires c = omega (arith, within (goal.at.index-requires c).After-other_end-z, c.loop-number.invariant.size, c.loop-number.reached.ok.0)

pub index_mut-requires : goal.index_mut-requires
index_mut-requires c = omega (arith, within (goal.at.index_mut-requires c).After-other_end-z, c.loop-number.invariant.size, c.loop-number.reached.ok.0)

pub loop-number-preserved-then-is_own : goal.loop-number-preserved-then-is_own
loop-number-preserved-then-is_own c =
    followed-dealt c.args.bonds.now c.args.link c.args.y c.args.numbers.now c.args.reached.now.items c.args.queue.now.items c.loop-number.number-index c.loop-number.reached.items
    c.loop-number.queue.items _ c.requires.numbers c.loop-number-test.true (inl (sym c.if-is_own.ensures)) c.loop-number.invariant

pub loop-number-preserved-then-index : goal.loop-number-preserved-then-index
loop-number-preserved-then-index c =
    let below : c.other_end-z.result < length c.loop-number.reached.items = omega (arith, within (goal.at.loop-number-preserved-then-index c).After-other_end-z, c.loop-number.invariant.size) in
    followed-seen c.args.bonds.now c.args.link (length c.args.reached.now.items - 1) c.args.y c.args.numbers.now
    c.args.reached.now.items c.args.queue.now.items c.loop-number.number-index _ c.other_end-z.result
    c.requires.ends c.requires.numbers c.loop-number-test.true c.other_end-z.ensures.first c.other_end-z.ensures.second
    c.loop-number.reached.items c.loop-number.queue.items
    (reached_read c.loop-number.reached.items c.other_end-z.result c.index.result.now true below c.index.ensures
    c.if-index.true) c.loop-number.invariant

pub loop-number-preserved : goal.loop-number-preserved
loop-number-preserved c =
    let below : c.other_end-z.result < length c.loop-number.reached.items = omega (arith, within (goal.at.loop-number-preserved c).After-other_end-z, c.loop-number.invariant.size) in
    rw c.in_ok-push.ensures.items (
    followed-first c.args.bonds.now c.args.link (length c.args.reached.now.items - 1) c.args.y c.args.numbers.now
    c.args.reached.now.items c.args.queue.now.items c.loop-number.number-index _ c.other_end-z.result
    c.requires.ends c.requires.numbers c.loop-number-test.true c.other_end-z.ensures.first c.other_end-z.ensures.second
    c.loop-number.reached.items c.loop-number.queue.items (sym c.is_own.ensures ∙ c.if-is_own.false) below
    (reached_read c.loop-number.reached.items c.other_end-z.result c.index.result.now false below c.index.ensures c.if-index.false) c.requires.hangs c.loop-number.invariant
    )

pub returns-clause-leads : goal.returns-clause-leads
returns-clause-leads c =
    followed-all c.args.bonds.now c.args.link c.args.y c.args.numbers.now c.args.reached.now.items
    c.args.queue.now.items c.loop-number.number-index c.loop-number.reached.items c.loop-number.queue.items
    c.requires.numbers c.loop-number-test.false c.loop-number.invariant

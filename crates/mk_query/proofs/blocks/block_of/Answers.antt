use Rattle.std.proofs.Common.{◌≡◌, ◌<◌, ◌+◌, ◌∙◌, [], ◌∷◌, ◌++◌, true, false, length, get_or, set, subst, ap, arith}
use Rattle.std.proofs.lemmas.List.{get_or_default, length-replicate, length-set}
use Rattle.mk_query.specs.BlockSearch.{IsReached, LeadsOn}
use Rattle.mk_query.proofs.BlockSearchLemmas.{followed-more, followed-none, reached-first, whole_block}
use Rattle.mk_query.proofs.blocks.block_of.Goals as goal
use Rattle.mk_query.proofs.blocks.block_of.Goals.{After-index-y}

-- the atom at the place
there : (c : After-index-y) → (c.loop-i.i < length c.loop-i.queue.items) × (c.index-y.result.now ≡ get_or c.loop-i.queue.items c.loop-i.i 0)
there c =
    let below : c.loop-i.i < length c.loop-i.queue.items = omega (arith, c.loop-i-test.true, c.len.ensures, c.loop-i.queue.ok.0) in
    (below, c.index-y.ensures ∙ get_or_default c.loop-i.queue.items c.loop-i.i c.index-y.result.now 0 below)

pub loop-i-init : goal.loop-i-init
loop-i-init c =
    let nothing = c.in_ok-reached.ensures.items_if_clones_equal (λ y e. e) in
    let one : c.push.new.self.items ≡ c.args.link.atom ∷ [] = c.in_ok-push.ensures.items ∙ ap (λ l. l ++ c.args.link.atom ∷ []) c.in_ok-queue.ensures.items in
    let are : IsReached c.args.bonded.now.bonds.now c.args.link (set c.in_ok-reached.reached.items c.args.link.atom true) c.push.new.self.items =
    rw one (reached-first c.args.bonded.now.bonds.now c.args.link c.args.bonded.now.atoms c.in_ok-reached.reached.items nothing c.requires.least c.requires.most) in
    record {
      size = length-set c.in_ok-reached.reached.items c.args.link.atom true ∙ ap length nothing ∙ length-replicate (c.args.bonded.now.atoms + 1) false;
      are = are;
      within = omega arith;
      followed = followed-none c.args.bonded.now.bonds.now c.args.link _ c.push.new.self.items;
    }

pub loop-i-preserved : goal.loop-i-preserved
loop-i-preserved c =
    let at = there (goal.at.loop-i-preserved c).After-index-y in
    let leads = subst (LeadsOn c.args.bonded.now.bonds.now c.args.link c.follow.new.reached.items) at.1 c.in_ok-follow.ensures.leads in
    record {
      size = c.follow.ensures.size ∙ c.loop-i.invariant.size;
      are = c.in_ok-follow.ensures.reached;
      within = omega (arith, at.0, c.in_ok-follow.ensures.longer.size);
      followed = followed-more c.args.bonded.now.bonds.now c.args.link c.loop-i.reached.items c.follow.new.reached.items c.loop-i.queue.items c.follow.new.queue.items c.loop-i.i at.0
          c.in_ok-follow.ensures.kept c.in_ok-follow.ensures.longer leads c.loop-i.invariant.followed;
    }

pub returns-clause-block : goal.returns-clause-block
returns-clause-block c =
    whole_block c.args.bonded.now.bonds.now c.args.link c.loop-i.reached.items c.loop-i.queue.items c.loop-i.i
    (omega (arith, c.loop-i-test.false, c.len.ensures, c.loop-i.queue.ok.0)) c.loop-i.invariant.are
    c.loop-i.invariant.followed

use Rattle.std.proofs.Common.{◌∷◌, [], refl, lit<, arith}
use Rattle.mk_model.proofs.ForCallers.{pays_end}
use Rattle.mk_model.specs.Hits.{IsHit}
use Rattle.mk_walk.specs.Turns.{IsMapNode}
use Rattle.mk_walk.specs.Walk.{place_of}
use Rattle.mk_walk.proofs.PassedLemmas.{same_through}
use Rattle.mk_walk.proofs.SearchTurnLemmas.{item_least, item_owed, item_pays, moved_left, moved_owed, moved_pays, moved_same, moved_short}
use Rattle.mk_walk.proofs.WalkLemmas.{none_least, none_more}
use Rattle.mk_walk.proofs.search.Search.step.Goals as goal

pub returns-in-Item-clause-turns : goal.returns-in-Item-clause-turns
returns-in-Item-clause-turns c = λ place debt left owed.
    let graph = c.args.graph.now in
    let mol = c.args.mol.now in
    let walk = c.args.self.now.walk in
    let from = place_of walk.images.items walk.depth walk.above in
    let new = c.turn.new.self in
    let images = new.images.items in
    let left' = rw c.in-Walking.is at left in
    let owed' = rw c.in-Walking.is at owed in
    record {
      least = item_least graph mol place from left' images (c.in-Item.ensures.least refl) (c.in-Item.ensures.hit refl);
      left = rw c.in-Walking.is (c.in-Item.ensures.behind refl);
      owed = rw c.in-Walking.is (item_owed images (place_of images new.depth new.above) (c.in-Item.ensures.over refl));
      pays = item_pays graph mol place debt from left' owed'.0 owed'.1 images (c.in-Item.ensures.item refl);
    }

pub returns-in-Moved-clause-turns : goal.returns-in-Moved-clause-turns
returns-in-Moved-clause-turns c = λ place debt left owed.
    let graph = c.args.graph.now in
    let mol = c.args.mol.now in
    let walk = c.args.self.now.walk in
    let from = place_of walk.images.items walk.depth walk.above in
    let new = c.turn.new.self in
    let left' = rw c.in-Walking.is at left in
    let owed' = rw c.in-Walking.is at owed in
    let same = c.in-Moved.ensures.moved refl in
    let node = c.in-Moved.ensures.node refl in
    record {
      same = moved_same graph mol place debt from left' owed'.0 owed'.1 new.images.items new.depth new.above same node;
      left = rw c.in-Walking.is (moved_left graph mol place debt from left' owed'.0 owed'.1 new.images.items new.depth new.above same node);
      owed = rw c.in-Walking.is (moved_owed graph mol place debt from left' owed'.0 owed'.1 new.images.items new.depth new.above same node);
      pays = moved_pays graph mol place debt from left' owed'.0 owed'.1 new.images.items new.depth new.above same node;
      few = moved_short graph mol new.images.items new.levels.items new.depth new.above c.in-Moved.ensures.kept;
      short = omega (arith, c.in-Moved.ensures.kept.short, c.in-Moved.ensures.kept.room);
      room = c.in-Moved.ensures.kept.room;
    }

pub returns-in-Once-clause-turns : goal.returns-in-Once-clause-turns
returns-in-Once-clause-turns c = λ place debt left owed.
    let graph = c.args.graph.now in
    let mol = c.args.mol.now in
    let is = rw c.in-Once.is at c.requires in
    let nothing = rw c.in-Once.is at left in
    let debt_is = rw c.in-Once.is at owed in
    record {
      least = rw (is.2, nothing) (none_least graph mol is.0 is.1);
      left = rw is.2 (none_more graph mol (0 ∷ []) is.1 (lit< tt));
      owed = tt;
      pays = rw (is.2, nothing) (pays_end (IsMapNode graph mol) debt debt_is);
    }

-- ---- of the hits from a place on

pub returns-in-Item-clause-next : goal.returns-in-Item-clause-next
returns-in-Item-clause-next c = λ place left.
    let walk = c.args.self.now.walk in
    item_least c.args.graph.now c.args.mol.now place (place_of walk.images.items walk.depth walk.above) (rw c.in-Walking.is at left)
    c.turn.new.self.images.items (c.in-Item.ensures.least refl) (c.in-Item.ensures.hit refl)

pub returns-in-Item-clause-owed : goal.returns-in-Item-clause-owed
returns-in-Item-clause-owed c = λ _.
    let new = c.turn.new.self in
    rw c.in-Walking.is (item_owed new.images.items (place_of new.images.items new.depth new.above) (c.in-Item.ensures.over refl))

pub returns-in-Moved-clause-next : goal.returns-in-Moved-clause-next
returns-in-Moved-clause-next c = λ place left.
    let walk = c.args.self.now.walk in
    let new = c.turn.new.self in
    let left' = rw c.in-Walking.is at left in
    rw c.in-Walking.is
    (same_through (IsHit c.args.graph.now c.args.mol.now) place (place_of walk.images.items walk.depth walk.above)
    (place_of new.images.items new.depth new.above) left' (c.in-Moved.ensures.moved refl))

pub returns-in-Once-clause-next : goal.returns-in-Once-clause-next
returns-in-Once-clause-next c = λ place left.
    let is = rw c.in-Once.is at c.requires in
    let nothing = rw c.in-Once.is at left in
    rw (is.2, nothing) (none_least c.args.graph.now c.args.mol.now is.0 is.1)

pub returns-in-Once-clause-left : goal.returns-in-Once-clause-left
returns-in-Once-clause-left c = λ _.
    let is = rw c.in-Once.is at c.requires in
    rw is.2 (none_more c.args.graph.now c.args.mol.now (0 ∷ []) is.1 (lit< tt))

use Rattle.std.proofs.Common.{◌≡◌, ◌+◌, ◌<◌, length, take, refl, ap, arith}
use Rattle.std.proofs.lemmas.List.{length-set, take-set}
use Rattle.mk_walk.proofs.ListsFromLemmas.{left_back, left_in, left_next}
use Rattle.mk_walk.proofs.TurnLemmas.{back_up, over_found, past_up, visit_dead, visit_found, visit_in, visit_past}
use Rattle.mk_walk.proofs.WalkLemmas.{anchor_within, behind_found, ended, last_most, least_found, moved_back, moved_dead, moved_in, moved_past, not_new, walk_back, walk_found, walk_put, walk_tried}
use Rattle.mk_walk.proofs.walk.Walk.step.Goals as goal

pub next_atom-requires : goal.next_atom-requires
next_atom-requires c =
    let w = c.args.self.now in
    anchor_within c.args.graph.now c.args.mol.now (take w.depth w.images.items) c.anchor_of-anchor.result
    c.requires.kept.drawing c.requires.kept.begun.within
    (rw c.deref.ensures.value at c.anchor_of-anchor.ensures.some)

pub returns-then-self-eq0-clause-end : goal.returns-then-self-eq0-clause-end
returns-then-self-eq0-clause-end c = λ _.
    let w = c.args.self.now in
    ended c.args.graph.now c.args.mol.now c.requires.kept.drawing c.requires.kept.molecule w.images.items w.levels.items
    w.depth w.above c.requires.kept c.anchor_of-anchor.result
    (rw c.deref.ensures.value at c.anchor_of-anchor.ensures.some)
    c.in_default.ensures.none c.if-self-eq0.true

-- ---- back

pub returns-in_default-clause-kept : goal.returns-in_default-clause-kept
returns-in_default-clause-kept c =
    let w = c.args.self.now in
    walk_back c.args.graph.now c.args.mol.now c.requires.kept.drawing c.requires.kept.molecule w.images.items
    w.levels.items w.depth w.above c.requires.kept c.index.result.now c.if-self-eq0.false c.index.ensures

pub returns-in_default-clause-moved : goal.returns-in_default-clause-moved
returns-in_default-clause-moved c = λ _.
    let w = c.args.self.now in
    moved_back c.args.graph.now c.args.mol.now c.requires.kept.drawing c.requires.kept.molecule w.images.items
    w.levels.items w.depth w.above c.requires.kept c.index.result.now c.if-self-eq0.false c.index.ensures
    c.anchor_of-anchor.result (rw c.deref.ensures.value at c.anchor_of-anchor.ensures.some) c.in_default.ensures.none

pub returns-in_default-clause-fewer : goal.returns-in_default-clause-fewer
returns-in_default-clause-fewer c = λ _.
    let w = c.args.self.now in
    let most = last_most c.args.graph.now c.args.mol.now c.requires.kept.drawing c.requires.kept.molecule w.images.items
    w.levels.items w.depth w.above c.requires.kept c.index.result.now c.if-self-eq0.false c.index.ensures in
    left_back (length c.args.mol.now.atoms + 1) (length c.args.graph.now.atoms) w.images.items w.depth
    c.requires.kept.short (omega (arith, c.requires.kept.room)) c.index.result.now w.above c.if-self-eq0.false
    c.index.ensures (omega arith)

-- ---- past an atom that may not stand

pub returns-then-not-may_stand-clause-moved : goal.returns-then-not-may_stand-clause-moved
returns-then-not-may_stand-clause-moved c = λ _.
    let w = c.args.self.now in
    moved_past c.args.graph.now c.args.mol.now c.requires.kept.drawing c.requires.kept.molecule w.images.items w.levels.items w.depth w.above c.requires.kept
    c.anchor_of-anchor.result (rw c.deref.ensures.value at c.anchor_of-anchor.ensures.some) c.in-Some.atom
    c.in-Some.ensures.found.0 c.in-Some.ensures.between
    (λ stands. (let never = c.if-not-may_stand.ensures.1 stands in absurd cc))

pub returns-then-not-may_stand-clause-fewer : goal.returns-then-not-may_stand-clause-fewer
returns-then-not-may_stand-clause-fewer c = λ _.
    let w = c.args.self.now in
    left_next (length c.args.mol.now.atoms + 1) (length c.args.graph.now.atoms) w.images.items w.depth
    c.requires.kept.short (omega (arith, c.requires.kept.room)) w.above c.in-Some.atom c.in-Some.ensures.found.0
    (omega (arith, c.in-Some.ensures.found.1))

pub put-requires-clause-few : goal.put-requires-clause-few
put-requires-clause-few c = omega (arith, c.requires.kept.room, c.requires.kept.drawing.sketch.few)

-- ---- past an atom that is dead

pub returns-then-is_dead-clause-kept : goal.returns-then-is_dead-clause-kept
returns-then-is_dead-clause-kept c =
    let w = c.args.self.now in
    rw (c.put.ensures.images, c.put.ensures.levels, c.put.ensures.depth)
    (walk_tried c.args.graph.now c.args.mol.now c.requires.kept.drawing c.requires.kept.molecule w.images.items
    w.levels.items w.depth w.above c.requires.kept c.in-Some.atom (omega (arith, c.in-Some.ensures.found.0))
    c.in-Some.ensures.found.1 (c.if-not-may_stand.ensures.0 refl))

pub returns-then-is_dead-clause-moved : goal.returns-then-is_dead-clause-moved
returns-then-is_dead-clause-moved c = λ _.
    let w = c.args.self.now in
    rw (c.put.ensures.images, c.put.ensures.depth)
    (moved_dead c.args.graph.now c.args.mol.now c.requires.kept.drawing c.requires.kept.molecule w.images.items
    w.levels.items w.depth w.above c.requires.kept c.in-Some.atom (omega (arith, c.in-Some.ensures.found.0))
    c.in-Some.ensures.found.1 (c.if-not-may_stand.ensures.0 refl)
    c.anchor_of-anchor.result (rw c.deref.ensures.value at c.anchor_of-anchor.ensures.some) c.in-Some.ensures.found.0 c.in-Some.ensures.between
    (rw (c.deref-2.ensures.value, c.put.ensures.images, c.put.ensures.depth) at (c.if-is_dead.ensures refl)))

pub returns-then-is_dead-clause-fewer : goal.returns-then-is_dead-clause-fewer
returns-then-is_dead-clause-fewer c = λ _.
    let w = c.args.self.now in
    rw (c.put.ensures.images, c.put.ensures.depth, take-set w.images.items w.depth c.in-Some.atom)
    (left_next (length c.args.mol.now.atoms + 1) (length c.args.graph.now.atoms) w.images.items w.depth
    c.requires.kept.short (omega (arith, c.requires.kept.room)) w.above c.in-Some.atom c.in-Some.ensures.found.0
    (omega (arith, c.in-Some.ensures.found.1)))

-- ---- a hit

pub returns-then-self-len-clause-kept : goal.returns-then-self-len-clause-kept
returns-then-self-len-clause-kept c =
    let w = c.args.self.now in
    rw (c.put.ensures.images, c.put.ensures.levels, c.put.ensures.depth)
    (walk_tried c.args.graph.now c.args.mol.now c.requires.kept.drawing c.requires.kept.molecule w.images.items
    w.levels.items w.depth w.above c.requires.kept c.in-Some.atom (omega (arith, c.in-Some.ensures.found.0))
    c.in-Some.ensures.found.1 (c.if-not-may_stand.ensures.0 refl))

pub returns-then-self-len-clause-hit : goal.returns-then-self-len-clause-hit
returns-then-self-len-clause-hit c = λ _.
    let w = c.args.self.now in
    let whole : w.depth + 1 ≡ length c.args.graph.now.atoms =
    omega (
      arith,
      ap length c.put.ensures.images,
      length-set w.images.items w.depth c.in-Some.atom,
      c.put.ensures.depth,
      c.requires.kept.room,
    ) in
    rw c.put.ensures.images
    (walk_found c.args.graph.now c.args.mol.now c.requires.kept.drawing c.requires.kept.molecule w.images.items
    w.levels.items w.depth w.above c.requires.kept c.in-Some.atom (omega (arith, c.in-Some.ensures.found.0))
    c.in-Some.ensures.found.1 (c.if-not-may_stand.ensures.0 refl) whole)

pub returns-then-self-len-clause-least : goal.returns-then-self-len-clause-least
returns-then-self-len-clause-least c = λ _.
    let w = c.args.self.now in
    let whole : w.depth + 1 ≡ length c.args.graph.now.atoms =
    omega (
      arith,
      ap length c.put.ensures.images,
      length-set w.images.items w.depth c.in-Some.atom,
      c.put.ensures.depth,
      c.requires.kept.room,
    ) in
    rw c.put.ensures.images
    (least_found c.args.graph.now c.args.mol.now c.requires.kept.drawing c.requires.kept.molecule w.images.items
    w.levels.items w.depth w.above c.requires.kept c.in-Some.atom (omega (arith, c.in-Some.ensures.found.0))
    c.in-Some.ensures.found.1 (c.if-not-may_stand.ensures.0 refl)
    c.anchor_of-anchor.result (rw c.deref.ensures.value at c.anchor_of-anchor.ensures.some) c.in-Some.ensures.found.0 c.in-Some.ensures.between whole)

pub returns-then-self-len-clause-behind : goal.returns-then-self-len-clause-behind
returns-then-self-len-clause-behind c = λ _.
    let w = c.args.self.now in
    let whole : w.depth + 1 ≡ length c.args.graph.now.atoms =
    omega (
      arith,
      ap length c.put.ensures.images,
      length-set w.images.items w.depth c.in-Some.atom,
      c.put.ensures.depth,
      c.requires.kept.room,
    ) in
    rw (c.put.ensures.images, c.put.ensures.depth)
    (behind_found c.args.graph.now c.args.mol.now c.requires.kept.drawing c.requires.kept.molecule w.images.items
    w.levels.items w.depth w.above c.requires.kept c.in-Some.atom (omega (arith, c.in-Some.ensures.found.0))
    c.in-Some.ensures.found.1 (c.if-not-may_stand.ensures.0 refl) whole)

-- ---- one atom more

pub returns-clause-kept : goal.returns-clause-kept
returns-clause-kept c =
    let w = c.args.self.now in
    let more : w.depth + 1 ≡ length c.args.graph.now.atoms → ⊥ = λ is.
    c.if-self-len.false (omega (
      arith,
      ap length c.put.ensures.images,
      length-set w.images.items w.depth c.in-Some.atom,
      c.put.ensures.depth,
      c.requires.kept.room,
    )) in
    rw (c.put.ensures.images, c.put.ensures.levels, c.put.ensures.depth)
    (walk_put c.args.graph.now c.args.mol.now c.requires.kept.drawing c.requires.kept.molecule w.images.items
    w.levels.items w.depth w.above c.requires.kept c.in-Some.atom (omega (arith, c.in-Some.ensures.found.0))
    c.in-Some.ensures.found.1 (c.if-not-may_stand.ensures.0 refl) more)

pub returns-clause-moved : goal.returns-clause-moved
returns-clause-moved c = λ _.
    let w = c.args.self.now in
    let more : w.depth + 1 ≡ length c.args.graph.now.atoms → ⊥ = λ is.
    c.if-self-len.false (omega (
      arith,
      ap length c.put.ensures.images,
      length-set w.images.items w.depth c.in-Some.atom,
      c.put.ensures.depth,
      c.requires.kept.room,
    )) in
    rw (c.put.ensures.images, c.put.ensures.depth)
    (moved_in c.args.graph.now c.args.mol.now c.requires.kept.drawing c.requires.kept.molecule w.images.items
    w.levels.items w.depth w.above c.requires.kept c.in-Some.atom (omega (arith, c.in-Some.ensures.found.0))
    c.in-Some.ensures.found.1 (c.if-not-may_stand.ensures.0 refl)
    c.anchor_of-anchor.result (rw c.deref.ensures.value at c.anchor_of-anchor.ensures.some) c.in-Some.ensures.found.0 c.in-Some.ensures.between more)

pub returns-clause-fewer : goal.returns-clause-fewer
returns-clause-fewer c = λ _.
    let w = c.args.self.now in
    let more : w.depth + 1 < length c.args.graph.now.atoms =
    omega (
      arith,
      ap length c.put.ensures.images,
      length-set w.images.items w.depth c.in-Some.atom,
      c.put.ensures.depth,
      c.requires.kept.room,
      c.requires.kept.short,
      c.if-self-len.false,
    ) in
    rw (c.put.ensures.images, c.put.ensures.depth)
    (left_in (length c.args.mol.now.atoms + 1) (length c.args.graph.now.atoms) w.images.items w.depth
    c.requires.kept.short (omega (arith, c.requires.kept.room)) w.above c.in-Some.atom more
    c.in-Some.ensures.found.0 (omega arith))

-- ---- the order of places

pub returns-in_default-clause-up : goal.returns-in_default-clause-up
returns-in_default-clause-up c = λ _.
    let w = c.args.self.now in
    back_up w.images.items w.depth w.above c.index.result.now c.if-self-eq0.false (omega (arith, c.requires.kept.room, c.requires.kept.short)) c.index.ensures

-- ---- past an atom that stands already

pub returns-then-holds-clause-moved : goal.returns-then-holds-clause-moved
returns-then-holds-clause-moved c = λ _.
    let w = c.args.self.now in
    moved_past c.args.graph.now c.args.mol.now c.requires.kept.drawing c.requires.kept.molecule w.images.items w.levels.items w.depth w.above c.requires.kept
    c.anchor_of-anchor.result (rw c.deref.ensures.value at c.anchor_of-anchor.ensures.some) c.in-Some.atom c.in-Some.ensures.found.0 c.in-Some.ensures.between
    (λ stands. not_new (take w.depth w.images.items) c.in-Some.atom (c.if-holds.ensures.0 refl) stands.new)

pub returns-then-holds-clause-fewer : goal.returns-then-holds-clause-fewer
returns-then-holds-clause-fewer c = λ _.
    let w = c.args.self.now in
    left_next (length c.args.mol.now.atoms + 1) (length c.args.graph.now.atoms) w.images.items w.depth
    c.requires.kept.short (omega (arith, c.requires.kept.room)) w.above c.in-Some.atom c.in-Some.ensures.found.0
    (omega (arith, c.in-Some.ensures.found.1))

pub returns-then-holds-clause-up : goal.returns-then-holds-clause-up
returns-then-holds-clause-up c = λ _.
    let w = c.args.self.now in
    past_up w.images.items w.depth w.above c.in-Some.atom c.in-Some.ensures.found.0

-- ---- nodes

pub returns-then-not-may_stand-clause-node : goal.returns-then-not-may_stand-clause-node
returns-then-not-may_stand-clause-node c = λ _.
    let w = c.args.self.now in
    visit_past c.args.graph.now c.args.mol.now w.images.items w.levels.items w.depth w.above c.requires.kept c.in-Some.atom c.in-Some.ensures.found.0 c.in-Some.ensures.found.1
    (λ held. (let never = c.if-holds.ensures.1 held in absurd cc))

pub returns-then-is_dead-clause-node : goal.returns-then-is_dead-clause-node
returns-then-is_dead-clause-node c = λ _.
    let w = c.args.self.now in
    rw (c.put.ensures.images, c.put.ensures.depth)
    (visit_dead c.args.graph.now c.args.mol.now w.images.items w.levels.items w.depth w.above c.requires.kept c.in-Some.atom c.in-Some.ensures.found.0 c.in-Some.ensures.found.1
    (λ held. (let never = c.if-holds.ensures.1 held in absurd cc)))

pub returns-then-self-len-clause-over : goal.returns-then-self-len-clause-over
returns-then-self-len-clause-over c = λ _.
    let w = c.args.self.now in
    let whole : w.depth + 1 ≡ length c.args.graph.now.atoms =
    omega (
      arith,
      ap length c.put.ensures.images,
      length-set w.images.items w.depth c.in-Some.atom,
      c.put.ensures.depth,
      c.requires.kept.room,
      c.if-self-len.true,
    ) in
    rw (c.put.ensures.images, c.put.ensures.depth)
    (over_found c.args.graph.now c.args.mol.now w.images.items w.levels.items w.depth w.above c.requires.kept c.in-Some.atom c.in-Some.ensures.found.0 c.in-Some.ensures.found.1
    (λ held. (let never = c.if-holds.ensures.1 held in absurd cc)) whole)

pub returns-then-self-len-clause-item : goal.returns-then-self-len-clause-item
returns-then-self-len-clause-item c = λ _.
    let w = c.args.self.now in
    let whole : w.depth + 1 ≡ length c.args.graph.now.atoms =
    omega (
      arith,
      ap length c.put.ensures.images,
      length-set w.images.items w.depth c.in-Some.atom,
      c.put.ensures.depth,
      c.requires.kept.room,
      c.if-self-len.true,
    ) in
    rw c.put.ensures.images
    (visit_found c.args.graph.now c.args.mol.now w.images.items w.levels.items w.depth w.above c.requires.kept c.in-Some.atom c.in-Some.ensures.found.0 c.in-Some.ensures.found.1
    (λ held. (let never = c.if-holds.ensures.1 held in absurd cc)) whole)

pub returns-clause-node : goal.returns-clause-node
returns-clause-node c = λ _.
    let w = c.args.self.now in
    rw (c.put.ensures.images, c.put.ensures.depth)
    (visit_in c.args.graph.now c.args.mol.now w.images.items w.levels.items w.depth w.above c.requires.kept c.in-Some.atom c.in-Some.ensures.found.0 c.in-Some.ensures.found.1
    (λ held. (let never = c.if-holds.ensures.1 held in absurd cc)))

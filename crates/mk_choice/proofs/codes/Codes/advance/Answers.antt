use Rattle.std.proofs.Common.{◌≡◌, ◌≤◌, ◌+◌, ◌∙◌, ◌++◌, ◌∷◌, [], ℕ, List, take, length, refl, sym, ap, arith}
use Rattle.std.proofs.lemmas.List.{length-take-le}
use Rattle.mk_model.specs.Logic.{IsValid}
use Rattle.mk_model.specs.Nodes.{BeginsCode}
use Rattle.mk_choice.specs.Frames.{from_of, numbers_of}
use Rattle.mk_choice.proofs.FrontLemmas.{same_of}
use Rattle.mk_choice.proofs.TurnLemmas.{begins_itself, end_none, put_there, ready_behind, ready_still, turn_code, turn_moved}
use Rattle.mk_choice.proofs.codes.Codes.advance.Goals as goal

-- ---- where nothing is left

pub invariant_of-self : goal.invariant_of-self
invariant_of-self c =
    let inside = c.self.inside in
    ready_still inside.query.now inside.most.items c.next_node.new.self
    (rw c.deref.ensures.value at c.if-not-next_node.ensures.frames) inside.frames inside.place.items inside.len
    inside.debt c.self.invariant
    (same_of (BeginsCode inside.query.now) (IsValid inside.query.now) (begins_itself inside.query.now) (from_of inside.frames) (from_of c.next_node.new.self) (c.if-not-next_node.ensures.same refl))
    (c.if-not-next_node.ensures.up refl)

pub returns-then-not-next_node : goal.returns-then-not-next_node
returns-then-not-next_node c =
    let inside = c.self.inside in
    rw (sym c.self.view_is) (end_none inside.query.now (take inside.len inside.place.items) (from_of inside.frames) c.self.invariant.same (c.if-not-next_node.ensures.none refl), refl)

-- ---- at a code

pub invariant_of-self-then-settle : goal.invariant_of-self-then-settle
invariant_of-self-then-settle c =
    let inside = c.self.inside in
    let node = c.next_node.new.self in
    let frames = c.settle.new.self in
    let are = rw c.deref-2.ensures.value at c.if-settle.ensures.frames in
    let n = node.depth in
    let code = frames.numbers.items in
    let few : n ≤ 512 = omega (arith, are.within, c.if-settle.ensures.depth) in
    let within : n ≤ length code = omega (arith, few, are.numbers_room) in
    let here : take n c.put.new.place.items ≡ numbers_of node =
    put_there code c.put.new.place.items n within (rw c.deref-then-settle.ensures.value at c.put.ensures.put) ∙ ap (take n) c.if-settle.ensures.same in
    ready_behind inside.query.now inside.most.items frames are c.put_last.new.place.items (n + 1)
    (omega (arith, c.put_last.ensures.size, c.put.ensures.size, c.self.invariant.room)) (omega (arith, few)) (numbers_of node ++ 0 ∷ [])
    (c.put_last.ensures.put ∙ ap (λ (xs : List ℕ). xs ++ 0 ∷ []) here) (c.if-settle.ensures.behind refl) (c.if-settle.ensures.over refl)

pub returns-then-settle : goal.returns-then-settle
returns-then-settle c =
    let inside = c.self.inside in
    let node = c.next_node.new.self in
    let frames = c.settle.new.self in
    let are = rw c.deref-2.ensures.value at c.if-settle.ensures.frames in
    let n = node.depth in
    let code = frames.numbers.items in
    let few : n ≤ 512 = omega (arith, are.within, c.if-settle.ensures.depth) in
    let within : n ≤ length code = omega (arith, few, are.numbers_room) in
    let here : take n c.put.new.place.items ≡ numbers_of node =
    put_there code c.put.new.place.items n within (rw c.deref-then-settle.ensures.value at c.put.ensures.put) ∙ ap (take n) c.if-settle.ensures.same in
    rw (sym c.self.view_is)
    (turn_code inside.query.now (take inside.len inside.place.items) (from_of inside.frames) inside.debt c.self.invariant.same c.self.invariant.up c.self.invariant.owed
    (numbers_of node) (c.if-not-next_node.ensures.found refl) (take (n + 1) c.put_last.new.place.items) (c.if-settle.ensures.valid refl)
    (c.put_last.ensures.put ∙ ap (λ (xs : List ℕ). xs ++ 0 ∷ []) here))

-- ---- at numbers that are none

pub invariant_of-self-2 : goal.invariant_of-self-2
invariant_of-self-2 c =
    let inside = c.self.inside in
    let node = c.next_node.new.self in
    let frames = c.settle.new.self in
    let are = rw c.deref-2.ensures.value at c.if-settle.ensures.frames in
    let n = node.depth in
    let code = frames.numbers.items in
    let few : n ≤ 512 = omega (arith, are.within, c.if-settle.ensures.depth) in
    let within : n ≤ length code = omega (arith, few, are.numbers_room) in
    let here : take n c.put-2.new.place.items ≡ numbers_of node =
    put_there code c.put-2.new.place.items n within (rw c.deref-3.ensures.value at c.put-2.ensures.put) ∙ ap (take n) c.if-settle.ensures.same in
    ready_behind inside.query.now inside.most.items frames are c.put-2.new.place.items n
    (omega (arith, c.put-2.ensures.size, c.self.invariant.room)) (omega (arith, few)) (numbers_of node) here (c.if-settle.ensures.moved refl) c.if-settle.ensures.on

pub returns : goal.returns
returns c =
    let inside = c.self.inside in
    let node = c.next_node.new.self in
    let frames = c.settle.new.self in
    let are = rw c.deref-2.ensures.value at c.if-settle.ensures.frames in
    let n = node.depth in
    let code = frames.numbers.items in
    let few : n ≤ 512 = omega (arith, are.within, c.if-settle.ensures.depth) in
    let within : n ≤ length code = omega (arith, few, are.numbers_room) in
    let here : take n c.put-2.new.place.items ≡ numbers_of node =
    put_there code c.put-2.new.place.items n within (rw c.deref-3.ensures.value at c.put-2.ensures.put) ∙ ap (take n) c.if-settle.ensures.same in
    let short : length (numbers_of node) ≤ 512 = omega (arith, length-take-le n node.numbers.items (omega (arith, within, ap length c.if-settle.ensures.same)), few) in
    rw (sym c.self.view_is)
    (turn_moved inside.query.now (take inside.len inside.place.items) (from_of inside.frames) inside.debt c.self.invariant.same c.self.invariant.up c.self.invariant.owed
    (numbers_of node) (c.if-not-next_node.ensures.found refl) (take n c.put-2.new.place.items) short here)

use Rattle.std.proofs.Common.{◌≡◌, ◌≤◌, ◌+◌, ◌∙◌, ◌++◌, ◌∷◌, [], ℕ, List, take, length, refl, ap, arith}
use Rattle.mk_choice.proofs.TurnLemmas.{put_there, ready_behind, ready_still}
use Rattle.mk_choice.proofs.codes.Codes.take.Goals as goal

pub invariant_of-self : goal.invariant_of-self
invariant_of-self c =
    let inside = c.self.inside in
    ready_still inside.query.now inside.most.items c.next_code.new.self
    (rw c.deref.ensures.value at c.if-not-next_code.ensures.frames) inside.frames inside.place.items inside.len
    inside.debt c.self.invariant
    (c.if-not-next_code.ensures.same refl) (c.if-not-next_code.ensures.up refl)

pub invariant_of-self-2 : goal.invariant_of-self-2
invariant_of-self-2 c =
    let inside = c.self.inside in
    let frames = c.next_code.new.self in
    let are = rw c.deref.ensures.value at c.if-not-next_code.ensures.frames in
    let n = frames.depth in
    let code = frames.numbers.items in
    let within : n ≤ length code = omega (arith, are.within, are.numbers_room) in
    let here : take n c.put.new.place.items ≡ take n code = put_there code c.put.new.place.items n within (rw c.deref-2.ensures.value at c.put.ensures.put) in
    ready_behind inside.query.now inside.most.items frames are c.put_last.new.place.items (n + 1)
    (omega (arith, c.put_last.ensures.size, c.put.ensures.size, c.self.invariant.room)) (omega (arith, are.within)) (take n code ++ 0 ∷ [])
    (c.put_last.ensures.put ∙ ap (λ (xs : List ℕ). xs ++ 0 ∷ []) here) (c.if-not-next_code.ensures.behind refl) (c.if-not-next_code.ensures.over refl)

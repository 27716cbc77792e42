use Rattle.std.proofs.Common.{◌≡◌, ◌<◌, ◌+◌, ◌-◌, ◌++◌, ◌∷◌, ℕ, List, drop, length, length-set, refl, sym, ap, subst, ◌∙◌, arith}
use Rattle.std.proofs.lemmas.List.{drop-set}
use Rattle.mk_model.specs.declared.template.Slot.{Slot}
use Rattle.mk_choice.specs.Ahead.{IsAhead}
use Rattle.mk_choice.proofs.StepLemmas.{ahead_last, behind_last_slot, few_up, frames_up, known_chosen, number_least, rest_last, room_up, slot_known, within_up}
use Rattle.mk_choice.proofs.frames.Frames.up.Goals as goal

pub at-slot-requires-clause-known : goal.at-slot-requires-clause-known
at-slot-requires-clause-known c = known_chosen c.args.query.now c.args.most.now c.args.self.now c.requires.frames c.requires.some

pub opened-slots-requires-clause-known : goal.opened-slots-requires-clause-known
opened-slots-requires-clause-known c = slot_known c.args.query.now c.args.most.now c.args.self.now c.requires.frames c.requires.some
    c.index-number.result.now c.at-slot.result.now c.index-number.ensures c.at-slot.ensures

pub uncounted-self-requires-clause-least : goal.uncounted-self-requires-clause-least
uncounted-self-requires-clause-least c = number_least c.args.query.now c.args.most.now c.args.self.now c.requires.frames c.requires.some
    c.index-number.result.now c.at-slot.result.now c.index-number.ensures c.at-slot.ensures

pub opened-slots-requires-clause-least : goal.opened-slots-requires-clause-least
opened-slots-requires-clause-least c =
    number_least c.args.query.now c.args.most.now c.args.self.now c.requires.frames c.requires.some c.index-number.result.now c.at-slot.result.now c.index-number.ensures c.at-slot.ensures

pub uncounted-self-requires-clause-known : goal.uncounted-self-requires-clause-known
uncounted-self-requires-clause-known c =
    slot_known c.args.query.now c.args.most.now c.args.self.now c.requires.frames c.requires.some c.index-number.result.now c.at-slot.result.now c.index-number.ensures c.at-slot.ensures

pub with_slot-self-requires-clause-known : goal.with_slot-self-requires-clause-known
with_slot-self-requires-clause-known c =
    slot_known c.args.query.now c.args.most.now c.args.self.now c.requires.frames c.requires.some c.index-number.result.now c.at-slot.result.now c.index-number.ensures c.at-slot.ensures

pub overflow_sub-first : goal.overflow_sub-first
overflow_sub-first c =
    omega (
      arith,
      ap length c.opened-slots.ensures.slots,
      room_up c.args.query.now c.args.most.now c.args.self.now c.requires.frames c.requires.some c.index-number.result.now c.at-slot.result.now c.index-number.ensures c.at-slot.ensures,
    )

pub put-requires : goal.put-requires
put-requires c =
    omega (
      arith,
      ap length c.opened-slots.ensures.slots,
      room_up c.args.query.now c.args.most.now c.args.self.now c.requires.frames c.requires.some c.index-number.result.now c.at-slot.result.now c.index-number.ensures c.at-slot.ensures,
      within_up c.args.query.now c.args.most.now c.args.self.now c.requires.frames c.requires.some c.index-number.result.now c.at-slot.result.now c.index-number.ensures c.at-slot.ensures,
      c.requires.frames.open_room,
    )

pub returns-clause-frames : goal.returns-clause-frames
returns-clause-frames c =
    let query = c.args.query.now in
    let most = c.args.most.now in
    let f = c.args.self.now in
    let are = c.requires.frames in
    let number = c.index-number.result.now in
    let slot = c.at-slot.result.now in
    let number_is = c.index-number.ensures in
    let slot_is = c.at-slot.ensures in
    let behind : List Slot = behind_last_slot query most f are c.requires.some number slot number_is slot_is in
    let slots_are = c.opened-slots.ensures.slots in
    let slots = c.opened-slots.result.now in
    let room = room_up query most f are c.requires.some number slot number_is slot_is in
    let within = within_up query most f are c.requires.some number slot number_is slot_is in
    let at : ℕ = f.first + length slots - 1 in
    let next : at + 1 ≡ f.first + length slots = omega (arith, ap length slots_are, room) in
    let below : at < length f.waiting = omega (arith, ap length slots_are, room, within, are.open_room) in
    let rest : drop (f.first + length slots) f.waiting ≡ behind =
    ap (λ (n : ℕ). drop (f.first + n) f.waiting) (ap length slots_are)
    ∙ rest_last query most f are c.requires.some number slot number_is slot_is in
    let open_is : drop at c.put.new.self ≡ slot ∷ behind =
    ap (drop at) c.put.ensures
    ∙ drop-set f.waiting at slot below ∙ ap (λ (n : ℕ). slot ∷ drop n f.waiting) next ∙ ap (λ (xs : List Slot). slot ∷ xs) rest in
    let ahead_here : IsAhead most (slots ++ behind) f.ahead =
    subst (λ (xs : List Slot). IsAhead most (xs ++ behind) f.ahead) (sym slots_are)
    (ahead_last query most f are c.requires.some number slot number_is slot_is) in
    let ahead = c.with_slot-self.ensures.ahead behind (few_up query most f are c.requires.some number slot number_is slot_is) (c.without_slots-left.ensures.ahead behind ahead_here) in
    frames_up query most f are c.requires.some number slot number_is slot_is _ refl refl open_is refl
    (ap length c.put.ensures ∙ length-set f.waiting at slot ∙ are.open_room)
    (omega (arith, ap length slots_are, within))
    c.uncounted-self.ensures.size c.uncounted-self.ensures.sites c.uncounted-self.ensures.filled c.with_slot-self.ensures.rows ahead

use Rattle.std.proofs.Common.{◌≡◌, ◌≤◌, ◌<◌, ◌+◌, ◌-◌, ◌++◌, ℕ, List, drop, length, length-set, set, take, refl, sym, ap, subst, ◌∙◌, arith, All}
use Rattle.std.proofs.lemmas.List.{take_more_set}
use Rattle.mk_model.specs.declared.template.Slot.{Slot}
use Rattle.mk_model.specs.OpenSlots.{most_at, opened}
use Rattle.mk_choice.specs.Ahead.{IsAhead}
use Rattle.mk_choice.specs.Search.{IsKnown}
use Rattle.mk_choice.proofs.StepLemmas.{ahead_last, behind_last_slot, few_before, few_onward, frames_onward, known_chosen, number_least, numbers_are, rest_last, room_onward, slot_known, within_up}
use Rattle.mk_choice.proofs.frames.Frames.onward.Goals as goal

pub at-slot-requires-clause-known : goal.at-slot-requires-clause-known
at-slot-requires-clause-known c = known_chosen c.args.query.now c.args.most.now c.args.self.now c.requires.frames c.requires.some

pub most_at-requires : goal.most_at-requires
most_at-requires c = slot_known c.args.query.now c.args.most.now c.args.self.now c.requires.frames c.requires.some
    c.index-number.result.now c.at-slot.result.now c.index-number.ensures c.at-slot.ensures

pub opened-closed-requires-clause-known : goal.opened-closed-requires-clause-known
opened-closed-requires-clause-known c = slot_known c.args.query.now c.args.most.now c.args.self.now c.requires.frames c.requires.some
    c.index-number.result.now c.at-slot.result.now c.index-number.ensures c.at-slot.ensures

pub opened-slots-requires-clause-known : goal.opened-slots-requires-clause-known
opened-slots-requires-clause-known c = slot_known c.args.query.now c.args.most.now c.args.self.now c.requires.frames c.requires.some
    c.index-number.result.now c.at-slot.result.now c.index-number.ensures c.at-slot.ensures

pub uncounted-before-requires-clause-least : goal.uncounted-before-requires-clause-least
uncounted-before-requires-clause-least c = number_least c.args.query.now c.args.most.now c.args.self.now c.requires.frames c.requires.some
    c.index-number.result.now c.at-slot.result.now c.index-number.ensures c.at-slot.ensures

pub opened-closed-requires-clause-least : goal.opened-closed-requires-clause-least
opened-closed-requires-clause-least c =
    number_least c.args.query.now c.args.most.now c.args.self.now c.requires.frames c.requires.some c.index-number.result.now c.at-slot.result.now c.index-number.ensures c.at-slot.ensures

pub uncounted-before-requires-clause-known : goal.uncounted-before-requires-clause-known
uncounted-before-requires-clause-known c =
    slot_known c.args.query.now c.args.most.now c.args.self.now c.requires.frames c.requires.some c.index-number.result.now c.at-slot.result.now c.index-number.ensures c.at-slot.ensures

pub counted-self-requires-clause-known : goal.counted-self-requires-clause-known
counted-self-requires-clause-known c =
    slot_known c.args.query.now c.args.most.now c.args.self.now c.requires.frames c.requires.some c.index-number.result.now c.at-slot.result.now c.index-number.ensures c.at-slot.ensures

pub counted-self-requires-clause-few : goal.counted-self-requires-clause-few
counted-self-requires-clause-few c =
    few_before c.args.query.now c.args.most.now c.args.self.now c.requires.frames c.requires.some c.index-number.result.now c.at-slot.result.now c.index-number.ensures c.at-slot.ensures
    c.uncounted-before.result c.uncounted-before.ensures.size c.uncounted-before.ensures.sites c.uncounted-before.ensures.filled

pub put_in_front-self-requires-clause-room : goal.put_in_front-self-requires-clause-room
put_in_front-self-requires-clause-room c =
    let query = c.args.query.now in
    let number = c.index-number.result.now in
    let slot = c.at-slot.result.now in
    let up_to : number + 1 ≤ most_at query slot = omega (arith, c.if-number-most_at.false, c.most_at.ensures) in
    let opens : All IsKnown (opened query slot (number + 1)) = subst (All IsKnown) c.opened-slots.ensures.slots c.opened-slots.ensures.known in
    omega (
      arith,
      ap length c.opened-slots.ensures.slots,
      ap length c.opened-closed.ensures.slots,
      room_onward query c.args.most.now c.args.self.now c.requires.frames c.requires.some number slot c.index-number.ensures c.at-slot.ensures
          c.uncounted-before.result c.uncounted-before.ensures.size c.uncounted-before.ensures.sites c.uncounted-before.ensures.filled (number + 1) (omega arith) up_to opens,
    )

pub put_in_front-self-requires-clause-within : goal.put_in_front-self-requires-clause-within
put_in_front-self-requires-clause-within c =
    omega (
      arith,
      ap length c.opened-closed.ensures.slots,
      within_up c.args.query.now c.args.most.now c.args.self.now c.requires.frames c.requires.some c.index-number.result.now c.at-slot.result.now c.index-number.ensures c.at-slot.ensures,
      c.requires.frames.open_room,
    )

pub returns-clause-frames : goal.returns-clause-frames
returns-clause-frames c =
    let query = c.args.query.now in
    let most = c.args.most.now in
    let f = c.args.self.now in
    let are = c.requires.frames in
    let some = c.requires.some in
    let number = c.index-number.result.now in
    let slot = c.at-slot.result.now in
    let number_is = c.index-number.ensures in
    let slot_is = c.at-slot.ensures in
    let behind : List Slot = behind_last_slot query most f are some number slot number_is slot_is in
    let first = c.uncounted-before.result in
    let size = c.uncounted-before.ensures.size in
    let sites = c.uncounted-before.ensures.sites in
    let filled = c.uncounted-before.ensures.filled in
    let up_to : number + 1 ≤ most_at query slot = omega (arith, c.if-number-most_at.false, c.most_at.ensures) in
    let slots = c.opened-slots.result.now in
    let slots_are = c.opened-slots.ensures.slots in
    let closed = c.opened-closed.result.now in
    let closed_are = c.opened-closed.ensures.slots in
    let opens : All IsKnown (opened query slot (number + 1)) = subst (All IsKnown) slots_are c.opened-slots.ensures.known in
    let within = within_up query most f are some number slot number_is slot_is in
    let few = few_onward query most f are some number slot number_is slot_is first size sites filled (number + 1) (omega arith) up_to opens in
    let few_slots : length (slots ++ behind) ≤ 512 = subst (λ (xs : List Slot). length (xs ++ behind) ≤ 512) (sym slots_are) few in
    let ahead_here : IsAhead most (closed ++ behind) f.ahead =
    subst (λ (xs : List Slot). IsAhead most (xs ++ behind) f.ahead) (sym closed_are)
    (ahead_last query most f are some number slot number_is slot_is) in
    let ahead = c.with_slots-self.ensures.ahead behind few_slots (c.without_slots-left.ensures.ahead behind ahead_here) in
    let rest : drop (f.first + length closed) f.waiting ≡ behind =
    ap (λ (n : ℕ). drop (f.first + n) f.waiting) (ap length closed_are)
    ∙ rest_last query most f are some number slot number_is slot_is in
    let last : f.depth - 1 < length f.numbers.items = omega (arith, some, are.within, are.numbers_room) in
    let whole : f.depth ≡ f.depth - 1 + 1 = omega (arith, some) in
    frames_onward query most f are some number slot number_is slot_is first size sites filled (number + 1) (omega arith) up_to opens _
    (ap (λ (n : ℕ). take n (set f.numbers.items (f.depth - 1) (number + 1))) whole ∙ take_more_set f.numbers.items (f.depth - 1) (number + 1) last)
    refl
    (c.put_in_front-self.ensures.put ∙ ap (λ (xs : List Slot). slots ++ xs) rest ∙ ap (λ (xs : List Slot). xs ++ behind) slots_are)
    refl
    (length-set f.numbers.items (f.depth - 1) (number + 1) ∙ are.numbers_room)
    (c.put_in_front-self.ensures.size ∙ are.open_room)
    (omega (arith, c.put_in_front-self.ensures.within, c.put_in_front-self.ensures.size, are.open_room))
    c.counted-self.ensures.size
    c.counted-self.ensures.sites c.counted-self.ensures.filled c.with_slots-self.ensures.rows
    (subst (λ (xs : List Slot). IsAhead most (xs ++ behind) c.with_slots-self.result) slots_are ahead)

pub returns-clause-numbers : goal.returns-clause-numbers
returns-clause-numbers c = λ _.
    let f = c.args.self.now in
    let number = c.index-number.result.now in
    let whole : f.depth ≡ f.depth - 1 + 1 = omega (arith, c.requires.some) in
    record {
      before = take (f.depth - 1) f.numbers.items;
      last = number;
      old_is = numbers_are c.args.query.now c.args.most.now f c.requires.frames c.requires.some number c.at-slot.result.now c.index-number.ensures c.at-slot.ensures;
      new_is = ap (λ (n : ℕ). take n (set f.numbers.items (f.depth - 1) (number + 1))) whole
          ∙ take_more_set f.numbers.items (f.depth - 1) (number + 1) (omega (arith, c.requires.some, c.requires.frames.within, c.requires.frames.numbers_room));
    }

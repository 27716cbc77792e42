use Rattle.std.proofs.Common.{◌≤◌, ◌+◌, ◌++◌, List, drop, length, length-append, length-set, take, refl, sym, ap, subst, ◌∙◌, arith, All}
use Rattle.std.proofs.lemmas.List.{length-drop, take_more_set}
use Rattle.mk_model.specs.declared.template.Slot.{Slot}
use Rattle.mk_model.specs.OpenSlots.{opened}
use Rattle.mk_choice.specs.Ahead.{IsAhead}
use Rattle.mk_choice.specs.Search.{IsKnown}
use Rattle.mk_choice.proofs.MoveLemmas.{counts_within, room_for_more}
use Rattle.mk_choice.proofs.StepLemmas.{ahead_is, few_down, first_known, frames_down, known_open, open_first, within_open}
use Rattle.mk_choice.proofs.frames.Frames.down.Goals as goal

pub at-slot-requires-clause-within : goal.at-slot-requires-clause-within
at-slot-requires-clause-within c = within_open c.args.query.now c.args.most.now c.args.self.now c.requires.frames (omega (arith, c.requires.least, c.requires.most))

pub at-slot-requires-clause-known : goal.at-slot-requires-clause-known
at-slot-requires-clause-known c = known_open c.args.query.now c.args.most.now c.args.self.now c.requires.frames

pub opened-slots-requires-clause-known : goal.opened-slots-requires-clause-known
opened-slots-requires-clause-known c =
    let f = c.args.self.now in
    let slot = c.at-slot.result.now in
    let is = open_first c.args.query.now c.args.most.now f c.requires.frames slot (omega (arith, c.requires.least, c.requires.most)) c.at-slot.ensures in
    first_known c.args.query.now c.args.most.now f c.requires.frames slot (drop (f.first + 1) f.waiting) is

pub counted-self-requires-clause-known : goal.counted-self-requires-clause-known
counted-self-requires-clause-known c =
    let f = c.args.self.now in
    let slot = c.at-slot.result.now in
    let is = open_first c.args.query.now c.args.most.now f c.requires.frames slot (omega (arith, c.requires.least, c.requires.most)) c.at-slot.ensures in
    first_known c.args.query.now c.args.most.now f c.requires.frames slot (drop (f.first + 1) f.waiting) is

pub counted-self-requires-clause-few : goal.counted-self-requires-clause-few
counted-self-requires-clause-few c =
    let f = c.args.self.now in
    counts_within c.args.query.now c.args.most.now f c.requires.frames 511
    (omega (arith, room_for_more c.args.query.now c.args.most.now f c.requires.frames (omega (arith, c.requires.least, c.requires.most))))

pub without_first-left-requires-clause-known : goal.without_first-left-requires-clause-known
without_first-left-requires-clause-known c =
    let f = c.args.self.now in
    let slot = c.at-slot.result.now in
    let is = open_first c.args.query.now c.args.most.now f c.requires.frames slot (omega (arith, c.requires.least, c.requires.most)) c.at-slot.ensures in
    first_known c.args.query.now c.args.most.now f c.requires.frames slot (drop (f.first + 1) f.waiting) is

pub index_mut-requires : goal.index_mut-requires
index_mut-requires c =
    let f = c.args.self.now in
    omega (
      arith,
      room_for_more c.args.query.now c.args.most.now f c.requires.frames (omega (arith, c.requires.least, c.requires.most)),
      c.requires.frames.numbers_room,
      f.numbers.ok.0,
    )

pub put-requires : goal.put-requires
put-requires c =
    let f = c.args.self.now in
    omega (
      arith,
      room_for_more c.args.query.now c.args.most.now f c.requires.frames (omega (arith, c.requires.least, c.requires.most)),
      c.requires.frames.slots_room,
    )

pub put_in_front-self-requires-clause-room : goal.put_in_front-self-requires-clause-room
put_in_front-self-requires-clause-room c =
    let f = c.args.self.now in
    let slot = c.at-slot.result.now in
    let is = open_first c.args.query.now c.args.most.now f c.requires.frames slot (omega (arith, c.requires.least, c.requires.most)) c.at-slot.ensures in
    let opens : All IsKnown (opened c.args.query.now slot c.args.number) = subst (All IsKnown) c.opened-slots.ensures.slots c.opened-slots.ensures.known in
    let few = few_down c.args.query.now c.args.most.now f c.requires.frames slot (drop (f.first + 1) f.waiting) is c.args.number c.requires.least c.requires.most opens in
    omega (
      arith,
      few,
      ap length c.opened-slots.ensures.slots,
      length-append (opened c.args.query.now slot c.args.number) (drop (f.first + 1) f.waiting),
      length-drop (f.first + 1) f.waiting,
      c.requires.frames.open_room,
    )

pub returns-clause-numbers : goal.returns-clause-numbers
returns-clause-numbers c =
    let f = c.args.self.now in
    take_more_set f.numbers.items f.depth c.args.number
    (omega (arith, room_for_more c.args.query.now c.args.most.now f c.requires.frames (omega (arith, c.requires.least, c.requires.most)), c.requires.frames.numbers_room))

pub returns-clause-frames : goal.returns-clause-frames
returns-clause-frames c =
    let f = c.args.self.now in
    let slot = c.at-slot.result.now in
    let behind = drop (f.first + 1) f.waiting in
    let is = open_first c.args.query.now c.args.most.now f c.requires.frames slot (omega (arith, c.requires.least, c.requires.most)) c.at-slot.ensures in
    let slots_are = c.opened-slots.ensures.slots in
    let opens : All IsKnown (opened c.args.query.now slot c.args.number) = subst (All IsKnown) slots_are c.opened-slots.ensures.known in
    let few = few_down c.args.query.now c.args.most.now f c.requires.frames slot behind is c.args.number c.requires.least c.requires.most opens in
    let below = room_for_more c.args.query.now c.args.most.now f c.requires.frames (omega (arith, c.requires.least, c.requires.most)) in
    let few_slots : length (c.opened-slots.result.now ++ behind) ≤ 512 = subst (λ (slots : List Slot). length (slots ++ behind) ≤ 512) (sym slots_are) few in
    let ahead = c.with_slots-self.ensures.ahead behind few_slots (c.without_first-left.ensures.ahead behind (ahead_is c.args.query.now c.args.most.now f c.requires.frames slot behind is)) in
    frames_down c.args.query.now c.args.most.now f c.requires.frames slot behind is c.args.number c.requires.least c.requires.most opens _
    (take_more_set f.numbers.items f.depth c.args.number (omega (arith, below, c.requires.frames.numbers_room)))
    (ap (take (f.depth + 1)) c.put.ensures ∙ take_more_set f.slots f.depth slot (omega (arith, below, c.requires.frames.slots_room)))
    (c.put_in_front-self.ensures.put ∙ ap (λ (slots : List Slot). slots ++ behind) slots_are)
    refl
    (length-set f.numbers.items f.depth c.args.number ∙ c.requires.frames.numbers_room)
    (ap length c.put.ensures ∙ length-set f.slots f.depth slot ∙ c.requires.frames.slots_room)
    (c.put_in_front-self.ensures.size ∙ c.requires.frames.open_room)
    (omega (arith, c.put_in_front-self.ensures.within, c.put_in_front-self.ensures.size, c.requires.frames.open_room))
    c.counted-self.ensures.size
    c.counted-self.ensures.sites c.counted-self.ensures.filled c.with_slots-self.ensures.rows
    (subst (λ (slots : List Slot). IsAhead c.args.most.now (slots ++ behind) c.with_slots-self.result) slots_are ahead)

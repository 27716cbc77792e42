use Rattle.std.proofs.Common.{◌≡◌, ◌≤◌, ◌++◌, [], List, drop, length, refl, ap, subst, ◌∙◌, arith, append-nil, All}
use Rattle.std.proofs.lemmas.List.{drop_all}
use Rattle.mk_model.specs.declared.template.Slot.{Slot}
use Rattle.mk_model.specs.Queries.{slots_of}
use Rattle.mk_choice.specs.Ahead.{IsAhead}
use Rattle.mk_choice.specs.Search.{IsKnown}
use Rattle.mk_choice.proofs.SeekLemmas.{frames_none}
use Rattle.mk_choice.proofs.SlotLemmas.{few_open}
use Rattle.mk_choice.proofs.ValidLemmas.{root_room}
use Rattle.mk_choice.proofs.frames.Frames.of.Goals as goal

pub put_in_front-first-requires-clause-room : goal.put_in_front-first-requires-clause-room
put_in_front-first-requires-clause-room c =
    let query = c.args.query.now in
    let slots_are = c.slots_of-slots.ensures.slots in
    let known : All IsKnown (slots_of query 0) = subst (All IsKnown) slots_are c.slots_of-slots.ensures.known in
    omega (arith, ap length slots_are, few_open query (slots_of query 0) 0 known (root_room query c.slots_of-slots.ensures.kept))

pub returns-clause-kept : goal.returns-clause-kept
returns-clause-kept c =
    let query = c.args.query.now in
    let slots_are = c.slots_of-slots.ensures.slots in
    let known : All IsKnown (slots_of query 0) = subst (All IsKnown) slots_are c.slots_of-slots.ensures.known in
    let few = few_open query (slots_of query 0) 0 known (root_room query c.slots_of-slots.ensures.kept) in
    let waiting = c.in_ok-waiting.waiting in
    let long : length waiting ≡ 512 = c.in_ok-waiting.ensures in
    let none : drop 512 waiting ≡ [] = drop_all 512 waiting (omega (arith, long)) in
    let slots = c.slots_of-slots.result.now in
    let rest : drop c.put_in_front-first.result c.put_in_front-first.new.self ≡ slots_of query 0 =
    c.put_in_front-first.ensures.put ∙ ap (λ (behind : List Slot). slots ++ behind) none ∙ append-nil slots ∙ slots_are in
    let few_slots : length (slots ++ []) ≤ 512 = omega (arith, ap length (append-nil slots), ap length slots_are, few) in
    let ahead : IsAhead c.args.most.now (slots_of query 0) c.with_slots-ahead.result =
    subst (λ (xs : List Slot). IsAhead c.args.most.now xs c.with_slots-ahead.result) (append-nil slots ∙ slots_are)
    (c.with_slots-ahead.ensures.ahead [] few_slots (c.nothing_ahead.ensures.none c.args.most.now)) in
    frames_none query c.args.most.now _ c.slots_of-slots.ensures.kept c.requires known refl rest
    (omega (arith, c.in_ok-numbers.ensures.len, c.in_ok-numbers.numbers.ok.0))
    c.in_ok-chosen.ensures
    (omega (arith, c.put_in_front-first.ensures.size, long))
    (omega (arith, c.put_in_front-first.ensures.within, c.put_in_front-first.ensures.size, long))
    c.no_counts.ensures.counts.all c.no_counts.ensures.none c.with_slots-ahead.ensures.rows ahead

use Rattle.std.proofs.Common.{rules, arith, subst, All}
use Rattle.mk_choice.specs.Pending.{open_slots}
use Rattle.mk_choice.specs.Search.{IsKnown}
use Rattle.mk_choice.proofs.SlotLemmas.{known_first, known_next}
use Rattle.mk_choice.proofs.WithinLemmas.{within_more}
use Rattle.mk_choice.proofs.within.+chosen_within.Goals as goal

pub most_at-requires : goal.most_at-requires
most_at-requires t c =
    let known = subst (All IsKnown) c.in-Some.ensures.some c.requires in
    known_first c.in-Some.slot.now (open_slots c.in-Some.behind) known

pub opened-requires-clause-known : goal.opened-requires-clause-known
opened-requires-clause-known t c =
    let known = subst (All IsKnown) c.in-Some.ensures.some c.requires in
    known_first c.in-Some.slot.now (open_slots c.in-Some.behind) known

pub chosen_within-requires : goal.chosen_within-requires
chosen_within-requires t c =
    let known = subst (All IsKnown) c.in-Some.ensures.some c.requires in
    (search rules, known_next c.in-Some.slot.now (open_slots c.in-Some.behind) c.opened.result.now c.opened.ensures.known known)

pub returns : goal.returns
returns t c =
    let number = c.in-Some-split_first.number.now in
    let rest = c.in-Some-split_first.others.now in
    let some = c.in-Some.ensures.some in
    let chosen = rw (c.opened.ensures.slots, c.in-Some-chosen_within.is) at c.chosen_within.ensures in
    within_more c.args.query.now c.in-Some.slot.now (open_slots c.args.pending.now) (open_slots c.in-Some.behind) number c.in-Some-chosen_within.n c.args.numbers.now rest some (search rules)
    (omega (arith, c.if-number-eq0.false)) (omega (arith, c.if-number-most_at.false, c.most_at.ensures)) chosen

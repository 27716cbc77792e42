use Rattle.mk_rtable.proofs.MembersLemmas.{members_put}
use Rattle.mk_rtable.proofs.SlotLemmas.{slots_labelled}
use Rattle.mk_rtable.proofs.members.members_of_front.Goals as goal

pub put_members-requires : goal.put_members-requires
put_members-requires c = rw c.slots_of-slots.ensures.slots (slots_labelled c.args.query.now c.slots_of-slots.ensures.kept 0)

pub returns : goal.returns
returns c =
    let puts = rw (c.slots_of-slots.ensures.slots, c.in_ok-members.ensures.items) at c.in_ok-put_members.ensures.put in
    rw c.of.ensures (record { members = members_put c.args.query.now c.args.numbers.now c.put_members.new.members.items puts })

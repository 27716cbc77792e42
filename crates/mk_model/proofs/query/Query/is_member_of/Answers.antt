use Rattle.std.proofs.Common.{◌∙◌, length, sym}
use Rattle.std.proofs.lemmas.Bool.{le-ltb}
use Rattle.mk_model.proofs.MembersLemmas.{members_rise, past_is, there_is}
use Rattle.mk_model.proofs.query.Query.is_member_of.Goals as goal

pub returns-then-place-members : goal.returns-then-place-members
returns-then-place-members c =
    there_is c.args.self.now c.members_of-members.ensures.kept c.args.g c.args.u c.members_of-members.result.now c.numbers_below-place.result
    c.members_of-members.ensures.list c.numbers_below-place.ensures c.if-place-members.true

pub returns-else-place-members : goal.returns-else-place-members
returns-else-place-members c =
    le-ltb c.numbers_below-place.result (length c.members_of-members.result.now) c.if-place-members.false
    ∙ sym (past_is c.args.self.now c.members_of-members.ensures.kept c.args.g c.args.u c.members_of-members.result.now c.numbers_below-place.result
    c.members_of-members.ensures.list c.numbers_below-place.ensures c.if-place-members.false)

pub numbers_below-place-requires : goal.numbers_below-place-requires
numbers_below-place-requires c = rw c.members_of-members.ensures.list (members_rise c.args.self.now c.members_of-members.ensures.kept c.args.g)

use Rattle.std.proofs.Common.{[], sym, append-nil}
use Rattle.mk_rtable.specs.Members.{AreMembers, AreMembersOfFront}
use Rattle.mk_rtable.proofs.MembersLemmas.{if_ok}
use Rattle.mk_rtable.proofs.members.members_of.Goals as goal

pub returns : goal.returns
returns c =
    let query = c.args.query.now in
    let code = c.args.code.now in
    record {
      members = if_ok c.members_of_front.result (AreMembersOfFront query code) (AreMembers query code)
          (λ members are. are code [] c.requires.code (sym (append-nil code))) c.members_of_front.ensures.members;
    }

use Rattle.std.proofs.Common.{◌≡◌, ◌-◌, ◌∙◌, List, ℕ, arith, sym, ap, get_or, length}
use Rattle.mk_model.specs.Labels.{member, members_at}
use Rattle.mk_model.proofs.MembersLemmas.{member_within, members_are, members_of_one}
use Rattle.mk_model.proofs.query.Query.member_at.Goals as goal

pub bounds-members_of-k : goal.bounds-members_of-k
bounds-members_of-k c =
    let same = members_of_one c.args.self.now c.members_of.ensures.kept c.args.slot.now c.labels.result.now c.labels.ensures (omega arith) (omega arith) in
    omega (arith, ap length c.members_of.ensures.list, ap length same, c.requires.least, c.requires.most)

pub returns-in-len1-clause-member : goal.returns-in-len1-clause-member
returns-in-len1-clause-member c =
    let same = members_of_one c.args.self.now c.members_of.ensures.kept c.args.slot.now c.labels.result.now c.labels.ensures (omega arith) (omega arith) in
    ap (λ (xs : List ℕ). get_or xs (c.args.k - 1) 0) (c.members_of.ensures.list ∙ sym same)

pub returns-in-len1-clause-within : goal.returns-in-len1-clause-within
returns-in-len1-clause-within c =
    let same = members_of_one c.args.self.now c.members_of.ensures.kept c.args.slot.now c.labels.result.now c.labels.ensures (omega arith) (omega arith) in
    let there : get_or c.members_of.result.now (c.args.k - 1) 0 ≡ member c.args.self.now c.args.slot.now c.args.k =
    ap (λ (xs : List ℕ). get_or xs (c.args.k - 1) 0) (c.members_of.ensures.list ∙ sym same) in
    omega (arith, there, member_within c.args.self.now c.args.slot.now c.args.k c.requires.least c.requires.most)

pub returns-in_default-clause-within : goal.returns-in_default-clause-within
returns-in_default-clause-within c =
    let there : get_or (members_at c.args.self.now c.args.slot.now) (c.args.k - 1) 0 ≡ c.joint_member.result =
    rw (members_are c.args.self.now c.args.slot.now, sym c.labels.ensures) (sym c.joint_member.ensures) in
    omega (arith, there, member_within c.args.self.now c.args.slot.now c.args.k c.requires.least c.requires.most)

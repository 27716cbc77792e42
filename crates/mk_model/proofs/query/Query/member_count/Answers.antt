use Rattle.std.proofs.Common.{◌≡◌, ◌∙◌, List, ℕ, arith, sym, ap, length}
use Rattle.mk_model.specs.JointMembers.{members_below}
use Rattle.mk_model.specs.Labels.{joint_members, members_at}
use Rattle.mk_model.proofs.MembersLemmas.{below_all, few_members_at, members_are, members_of_one}
use Rattle.mk_model.proofs.query.Query.member_count.Goals as goal

-- the members of the one label
of_one : (c : goal.After-members_of) → length c.members_of.result.now ≡ length (members_at c.args.self.now c.args.slot.now)
of_one c =
    ap length (c.members_of.ensures.list
    ∙ sym (members_of_one c.args.self.now c.members_of.ensures.kept c.args.slot.now c.labels.result.now c.labels.ensures (omega arith) (omega arith)))

-- those of all labels
of_all : (c : goal.After-members_below) → c.members_below.result ≡ length (members_at c.args.self.now c.args.slot.now)
of_all c =
    c.members_below.ensures
    ∙ ap (members_below c.args.self.now c.labels.result.now) (ap length c.templates.ensures.list)
    ∙ sym (below_all c.args.self.now c.labels.result.now)
    ∙ ap (λ (labels : List ℕ). length (joint_members c.args.self.now labels)) c.labels.ensures
    ∙ sym (ap length (members_are c.args.self.now c.args.slot.now))

pub overflow_cast-result : goal.overflow_cast-result
overflow_cast-result c = omega (arith, of_one c, few_members_at c.args.self.now c.members_of.ensures.kept c.args.slot.now)

pub overflow_cast-result-in_default : goal.overflow_cast-result-in_default
overflow_cast-result-in_default c = omega (arith, of_all c, few_members_at c.args.self.now c.templates.ensures.kept c.args.slot.now)

pub returns-in-len1-clause-count : goal.returns-in-len1-clause-count
returns-in-len1-clause-count c = of_one c

pub returns-in-len1-clause-few : goal.returns-in-len1-clause-few
returns-in-len1-clause-few c = omega (arith, of_one c, few_members_at c.args.self.now c.members_of.ensures.kept c.args.slot.now)

pub returns-in_default-clause-count : goal.returns-in_default-clause-count
returns-in_default-clause-count c = of_all c

pub returns-in_default-clause-few : goal.returns-in_default-clause-few
returns-in_default-clause-few c = omega (arith, of_all c, few_members_at c.args.self.now c.templates.ensures.kept c.args.slot.now)

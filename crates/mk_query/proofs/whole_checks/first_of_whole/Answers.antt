use Rattle.std.proofs.Common.{arith}
use Rattle.mk_query.proofs.WholeLemmas.{many_fail, whole_item}
use Rattle.mk_query.proofs.whole_checks.first_of_whole.Goals as goal

pub returns-then-members_in-gt-MOST_MEMBERS : goal.returns-then-members_in-gt-MOST_MEMBERS
returns-then-members_in-gt-MOST_MEMBERS c =
    many_fail c.args.raw.now c.requires (rw c.as_slice.ensures at c.if-as_slice-eq0.false) (λ g some few. c.loop-i.invariant g some (omega (arith, few, c.loop-i-test.false)))
    (rw c.as_slice-groups.ensures at (c.members_in.ensures.many c.if-members_in-gt-MOST_MEMBERS.true))

pub returns : goal.returns
returns c = λ item.
    whole_item c.args.raw.now c.requires (rw c.as_slice.ensures at c.if-as_slice-eq0.false) (λ g some few. c.loop-i.invariant g some (omega (arith, few, c.loop-i-test.false))) item
    (λ _. (let few = rw c.as_slice-groups.ensures at c.members_in.ensures.few c.if-members_in-gt-MOST_MEMBERS.false in omega (arith, few, c.if-members_in-gt-MOST_MEMBERS.false)))

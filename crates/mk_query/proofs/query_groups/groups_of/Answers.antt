use Rattle.std.proofs.Common.{◌∙◌, arith}
use Rattle.mk_query.proofs.GroupLemmas.{groups_all, groups_more, groups_none, known_logic}
use Rattle.mk_query.proofs.query_groups.groups_of.Goals as goal

pub group_of-requires : goal.group_of-requires
group_of-requires c = rw c.as_slice-in-loop-i.ensures (known_logic c.args.raw.now.root c.requires.root)

pub loop-i-preserved : goal.loop-i-preserved
loop-i-preserved c =
    rw c.in_ok-push.ensures.items
    (groups_more c.args.raw.now c.loop-i.i c.loop-i.groups.items c.in_ok-group.group
    (record {
      members = c.in_ok-group.ensures.members ∙ (rw c.as_slice.ensures at c.in_ok-members.ensures);
      logic = rw c.as_slice-in-loop-i.ensures at c.in_ok-group.ensures.logic;
    })
    c.loop-i.invariant)

pub loop-i-init : goal.loop-i-init
loop-i-init c = groups_none c.args.raw.now c.in_ok-groups.groups.items c.in_ok-groups.ensures.items

pub returns : goal.returns
returns c = groups_all c.args.raw.now c.loop-i.i c.loop-i.groups.items (omega arith) c.loop-i.invariant

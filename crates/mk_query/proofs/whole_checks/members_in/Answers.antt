use Rattle.std.proofs.Common.{◌≡◌, ◌∙◌, Some, sym, ap, length, take, arith}
use Rattle.std.specs.Prelude.{slice_get}
use Rattle.mk_rgfile.specs.declared.raw_query.RawGroup.{RawGroup}
use Rattle.mk_model.proofs.ForCallers.{at_place}
use Rattle.mk_query.proofs.TableWalkLemmas.{few_before, members_count}
use Rattle.mk_query.proofs.WholeLemmas.{members_in-more}
use Rattle.mk_query.proofs.whole_checks.members_in.Goals as goal
use Rattle.mk_query.proofs.whole_checks.members_in.Goals.{After-as_slice}

-- the group at the place
there : (c : After-as_slice) → slice_get c.args.groups.now c.loop-i.i ≡ Some c.index-groups-i.result
there c = at_place c.args.groups.now c.loop-i.i c.index-groups-i.result c.loop-i-test.true ∙ ap Some (sym c.index-groups-i.is)

-- and how many members it has
size : (c : After-as_slice) → length c.as_slice.result.now ≡ length c.index-groups-i.result.members
size c = ap length (c.as_slice.ensures ∙ ap (λ (g : RawGroup). g.members) (sym c.index-groups-i.is))

pub returns-then-count-gt-MOST_MEMBERS-clause-many : goal.returns-then-count-gt-MOST_MEMBERS-clause-many
returns-then-count-gt-MOST_MEMBERS-clause-many c = λ many.
    let past = (goal.at.returns-then-count-gt-MOST_MEMBERS-clause-many c).After-as_slice in
    omega (
      arith,
      many,
      size past,
      few_before c.args.groups.now c.loop-i.i c.index-groups-i.result (there past),
      c.loop-i.invariant.is,
      members_count (take c.loop-i.i c.args.groups.now),
      members_count c.args.groups.now,
    )

pub loop-i-preserved : goal.loop-i-preserved
loop-i-preserved c =
    let past = (goal.at.loop-i-preserved c).After-as_slice in
    record {
      is = omega (arith, c.loop-i.invariant.is, size past, members_in-more c.args.groups.now c.loop-i.i c.index-groups-i.result (there past));
      few = omega (arith, c.if-count-gt-MOST_MEMBERS.false);
    }

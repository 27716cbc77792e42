use Rattle.std.proofs.Common.{◌≡◌, ◌∷◌, ◌∙◌, List, Some, sym, subst, ap, take, length, arith}
use Rattle.std.specs.Prelude.{slice_get}
use Rattle.std.proofs.lemmas.List.{append_assoc, take_all}
use Rattle.mk_tables.specs.declared.raw.RawTable.{RawTable}
use Rattle.mk_rgfile.specs.declared.raw_query.RawGroup.{RawGroup}
use Rattle.mk_model.proofs.ForCallers.{at_place}
use Rattle.mk_query.specs.Compiled.{member_tables}
use Rattle.mk_query.specs.TableWalk.{IsWalked}
use Rattle.mk_query.proofs.TableWalkLemmas.{few_before, member_split, members_count, members_more, next_among}
use Rattle.mk_query.proofs.table_walk.put_groups.Goals as goal
use Rattle.mk_query.proofs.table_walk.put_groups.Goals.{After-as_slice-members}

-- the group at the place
there : (c : After-as_slice-members) → slice_get c.args.raw.now.groups c.loop-i.i ≡ Some c.index-groups-i.result
there c =
    at_place c.args.raw.now.groups c.loop-i.i c.index-groups-i.result (rw c.as_slice-groups.ensures at c.loop-i-test.true)
    ∙ ap Some (sym (rw c.as_slice-groups.ensures at c.index-groups-i.is))

-- the members that are looked through are those of the group
are : (c : After-as_slice-members) → c.as_slice-members.result.now ≡ c.index-groups-i.result.members
are c = c.as_slice-members.ensures ∙ ap (λ (g : RawGroup). g.members) (sym c.index-groups-i.is)

pub put_members-requires-clause-few : goal.put_members-requires-clause-few
put_members-requires-clause-few c =
    let past = (goal.at.put_members-requires-clause-few c).After-as_slice-members in
    let groups = c.args.raw.now.groups in
    omega (arith, few_before groups c.loop-i.i c.index-groups-i.result (there past), c.loop-i.invariant.are.size, c.requires.few_members, members_count groups, ap length (are past))

pub returns-in-Some : goal.returns-in-Some
returns-in-Some c =
    let past = (goal.at.returns-in-Some c).After-as_slice-members in
    let raw = c.args.raw.now in
    let front = raw.root ∷ member_tables (take c.loop-i.i raw.groups) in
    let split = member_split raw.groups c.loop-i.i c.index-groups-i.result (there past) in
    let among = ap (λ (l : List RawTable). raw.root ∷ l) split.1 ∙ sym (append_assoc front c.index-groups-i.result.members split.0) in
    next_among raw.groups front c.index-groups-i.result.members c.in-Some.fault (split.0, among)
    ((rw (c.as_slice-groups.ensures, are past, c.in-Some.is) at c.in_ok-fault.ensures) front c.loop-i.invariant)

pub loop-i-preserved : goal.loop-i-preserved
loop-i-preserved c =
    let past = (goal.at.loop-i-preserved c).After-as_slice-members in
    let raw = c.args.raw.now in
    subst (λ (l : List RawTable). IsWalked raw.groups (raw.root ∷ l) c.put_members.new.templates.items) (sym (members_more raw.groups c.loop-i.i c.index-groups-i.result (there past)))
    ((rw (c.as_slice-groups.ensures, are past, c.in_default.is) at c.in_ok-fault.ensures) (raw.root ∷ member_tables (take c.loop-i.i raw.groups)) c.loop-i.invariant)

pub returns : goal.returns
returns c =
    let raw = c.args.raw.now in
    let all = take_all c.loop-i.i raw.groups (rw c.as_slice-groups.ensures at c.loop-i-test.false) in
    subst (λ (l : List RawGroup). IsWalked raw.groups (raw.root ∷ member_tables l) c.loop-i.templates.items) all c.loop-i.invariant

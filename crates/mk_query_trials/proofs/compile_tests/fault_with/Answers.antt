-- With one group more a query that is read is still such as `compile` asks for.
use Rattle.std.proofs.Common.{◌+◌, ◌≤◌, ◌≡◌, All, List, [], ◌∷◌, ◌++◌, length, ap, arith}
use Rattle.std.proofs.lemmas.List.Elements.{All-push, All-same}
use Rattle.mk_text.specs.Lines.{lines_of}
use Rattle.mk_text.proofs.ForCallers.{lines_few}
use Rattle.mk_rgfile.specs.declared.raw_query.RawGroup.{RawGroup}
use Rattle.mk_rgfile.specs.declared.raw_query.RawQuery.{RawQuery}
use Rattle.mk_rgfile.specs.QueryFacts.{members_in}
use Rattle.mk_query.specs.InRange.{HasFewProperties, HaveFewProperties, IsGroupInRange, IsQueryInRange}
use Rattle.mk_query.proofs.ForCallers.{few_by_lines, in_range}
use Rattle.mk_query_trials.proofs.compile_tests.fault_with.Goals as goal

-- the members of one group more
members_in-push : (groups : List RawGroup) (group : RawGroup) → members_in (groups ++ group ∷ []) ≡ members_in groups + length group.members
members_in-push [] group = omega arith
members_in-push (first ∷ groups) group = omega (arith, members_in-push groups group)

-- a query stays in range
in_range_with : (raw : RawQuery) (group : RawGroup) (groups : List RawGroup) → groups ≡ raw.groups ++ group ∷ [] → IsQueryInRange raw → IsGroupInRange group
    → IsQueryInRange (record { root = raw.root; groups = groups })
in_range_with raw group groups is rest one = record { root = rest.root; groups = All-same IsGroupInRange groups _ is (All-push IsGroupInRange raw.groups group rest.groups one) }

-- and each of its tables has few properties
few_with : (raw : RawQuery) (group : RawGroup) (groups : List RawGroup) → groups ≡ raw.groups ++ group ∷ [] → HaveFewProperties raw → All HasFewProperties group.members
    → HaveFewProperties (record { root = raw.root; groups = groups })
few_with raw group groups is rest one =
    let P : RawGroup → Type 0 = λ part. All HasFewProperties part.members in
    record { root = rest.root; members = All-same P groups _ is (All-push P raw.groups group rest.members one) }

pub fault_of_raw-requires-clause-in_range : goal.fault_of_raw-requires-clause-in_range
fault_of_raw-requires-clause-in_range c = in_range_with c.in-Ok.raw c.args.group _ c.in_ok-push-in-Ok.ensures.ok (in_range c.in-Ok.raw c.in-Ok.ensures.keeps) c.requires.in_range

pub fault_of_raw-requires-clause-few_members : goal.fault_of_raw-requires-clause-few_members
fault_of_raw-requires-clause-few_members c =
    let all = ap members_in c.in_ok-push-in-Ok.ensures.ok in
    omega (arith, all, members_in-push c.in-Ok.raw.groups c.args.group, c.in-Ok.ensures.fits.few_members, lines_few c.args.text.now, c.if-text-gt1000000.false, c.requires.few_members)

pub fault_of_raw-requires-clause-few_properties : goal.fault_of_raw-requires-clause-few_properties
fault_of_raw-requires-clause-few_properties c =
    let few : length (lines_of c.args.text.now) ≤ 4294967296 = omega (arith, lines_few c.args.text.now, c.if-text-gt1000000.false) in
    few_with c.in-Ok.raw c.args.group _ c.in_ok-push-in-Ok.ensures.ok (few_by_lines (length (lines_of c.args.text.now)) c.in-Ok.raw few c.in-Ok.ensures.fits).0 c.requires.few_properties

use Rattle.std.proofs.Common.{◌≤◌, sym, arith}
use Rattle.mk_query.specs.Recursion.{MembersWithin}
use Rattle.mk_query.proofs.CapLemmas.{small_tested, test_small}
use Rattle.mk_query.proofs.RecursionLemmas.{HasGroups, all_within, has_groups}
use Rattle.mk_query.proofs.RootSizesLemmas.{greatest_next, is_small, small_is, zeros_greatest}
use Rattle.mk_query.proofs.root_sizes.is_small.Goals as goal
use Rattle.mk_query.proofs.root_sizes.is_small.Goals.{In_ok-own}

-- the labels and members of the draft are in range
has : (c : In_ok-own) → HasGroups c.args.draft.now
has c = has_groups c.args.draft.now c.in_ok-own.ensures.kept.templates

within : (c : In_ok-own) → MembersWithin c.args.draft.now
within c = all_within c.args.draft.now c.in_ok-own.ensures.kept.members

pub loop-n-init : goal.loop-n-init
loop-n-init c = zeros_greatest c.args.draft.now (has (goal.at.loop-n-init c).In_ok-own) (within (goal.at.loop-n-init c).In_ok-own) c.in_ok-of_groups.of_groups.items
    (c.in_ok-of_groups.ensures.items_if_clones_equal (λ y e. e))

pub loop-n-preserved : goal.loop-n-preserved
loop-n-preserved c =
    let past = (goal.at.loop-n-preserved c).In_ok-own in
    greatest_next c.args.draft.now (has past) (within past) c.in_ok-own.own.items c.loop-n.of_groups.items c.in_ok-of_groups-2.of_groups.items c.loop-n.n c.in_ok-own.ensures.own
    c.loop-n.invariant c.in_ok-of_groups-2.ensures.size (rw (c.deref.ensures.value, c.deref-in-loop-n.ensures.value) at c.in_ok-of_groups-2.ensures.each)

pub returns : goal.returns
returns c =
    let past = (goal.at.returns c).In_ok-own in
    let query = c.args.draft.now in
    let own = c.in_ok-own.ensures in
    let rounds : 33 ≤ c.loop-n.n = omega (arith, c.loop-n-test.false) in
    let size = rw (c.deref-2.ensures.value, c.deref-3.ensures.value) at c.size_by_lists.ensures in (
      λ less.
          is_small query (has past) (within past) 32 (omega arith) c.requires c.in_ok-own.own.items c.loop-n.of_groups.items c.loop-n.n rounds own.kept.root own.own c.loop-n.invariant
          (rw size at (test_small c.size_by_lists.result less)),
      λ small.
          let few = small_is query (has past) (within past) 32 (omega arith) c.requires c.in_ok-own.own.items c.loop-n.of_groups.items c.loop-n.n rounds own.kept.root own.own
          c.loop-n.invariant small in
          small_tested c.size_by_lists.result (rw (sym size) at few),
    )

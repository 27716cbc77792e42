use Rattle.std.proofs.Common.{◌≡◌, ◌≤◌, ◌<◌, ◌+◌, ◌-◌, List, Some, get_or, length, subst, ap, arith}
use Rattle.std.specs.Prelude.{slice_get, slice_index}
use Rattle.std.proofs.lemmas.Option.{slice_get-get_or}
use Rattle.mk_model.specs.declared.group.Group.{Group}
use Rattle.mk_choice.proofs.LimitLemmas.{asked_named}
use Rattle.mk_choice.proofs.limits.with_named.Goals as goal

pub with_limit-requires-clause-asked : goal.with_limit-requires-clause-asked
with_limit-requires-clause-asked c =
    let query = c.args.query.now in
    let h = c.args.h in
    let list = c.groups-groups.ensures.list in
    let all : List Group = c.groups-groups.result.now in
    let within : h < length all = omega (arith, c.requires.within, ap length list, c.groups-groups.ensures.kept.few_members.all_groups) in
    let group : Group = get_or all h c.index-groups-h.result in
    let at : slice_get query.groups h ≡ Some group = subst (λ (gs : List Group). slice_get gs h ≡ Some group) list (slice_get-get_or all h c.index-groups-h.result within) in
    let names : group.then_group ≡ group.then_group - 1 + 1 = omega (arith, c.if-named-eq0.false) in
    let some : 1 ≤ slice_index c.args.limits.wants h = omega (arith, c.if-limits-h-eq0.false) in
    asked_named query c.args.counts.now c.args.ahead.now c.args.limits.wants c.args.limits.caps h (group.then_group - 1 + 1) group c.requires.within at names some c.requires.each

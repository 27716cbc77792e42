use Rattle.std.proofs.Common.{◌≡◌, ◌≤◌, ◌<◌, ◌+◌, ℕ, List, Some, get_or, length, sym, subst, ap, arith}
use Rattle.std.specs.Prelude.{IsTrue, slice_get, slice_index}
use Rattle.std.proofs.lemmas.Bool.Decides.{nat_tests}
use Rattle.std.proofs.lemmas.Option.{slice_get-get_or}
use Rattle.mk_model.specs.declared.group.Group.{Group}
use Rattle.mk_model.specs.declared.query.Count.{Count}
use Rattle.mk_model.specs.Logic.{is_in_range}
use Rattle.mk_logic.specs.Counts.{filled_at, sites_at}
use Rattle.mk_logic.proofs.ForCallers.{filled_is, sites_is}
use Rattle.mk_choice.proofs.LimitLemmas.{limit_next}
use Rattle.mk_choice.proofs.limits.with_limit.Goals as goal

-- what is read behind the end
abbrev no_sites : Count
no_sites = record { sites = 0; filled = 0 }

pub returns-clause-each : goal.returns-clause-each
returns-clause-each c =
    let query = c.args.query.now in
    let counts = c.args.counts.now in
    let i = c.args.i in
    let list = c.groups-groups.ensures.list in
    let all : List Group = c.groups-groups.result.now in
    let within : i < length all = omega (arith, c.requires.within, ap length list, c.groups-groups.ensures.kept.few_members.all_groups) in
    let group : Group = get_or all i c.index-groups-i.result in
    let at : slice_get query.groups i ≡ Some group = subst (λ (gs : List Group). slice_get gs i ≡ Some group) list (slice_get-get_or all i c.index-groups-i.result within) in
    let count = slice_get-get_or counts i no_sites (omega (arith, c.requires.within, c.requires.counts.all)) in
    let sites = sites_is query counts i (get_or counts i no_sites) count in
    let filled = filled_is query counts i (get_or counts i no_sites) count in
    let stands : 0 < sites_at counts (i + 1) + slice_index c.args.ahead.now.sites i = (let test = sym (c.if-not-stands.ensures) in grind (arith, nat_tests, sites)) in
    let from : (n : ℕ) → filled_at counts (i + 1) ≤ n → IsTrue (is_in_range group.range n) → filled_at counts (i + 1) + c.least_more-least.result ≤ n =
    rw filled (rw c.as_slice-range.ensures at c.least_more-least.ensures) in
    let to : (n : ℕ) → filled_at counts (i + 1) ≤ n → IsTrue (is_in_range group.range n) → n ≤ filled_at counts (i + 1) + c.most_more-most.result =
    rw filled (rw c.as_slice-range.ensures at c.most_more-most.ensures) in
    limit_next query counts c.args.ahead.now c.args.limits.wants c.args.limits.caps c.with_number-wants.result c.with_number-caps.result i
    c.least_more-least.result c.most_more-most.result group c.requires.within at c.requires.limits.wants c.requires.limits.caps stands from to
    c.with_number-wants.ensures c.with_number-caps.ensures c.requires.asked c.requires.each

use Rattle.std.proofs.Common.{◌<◌, ◌+◌, get_or, length, refl, sym, arith}
use Rattle.std.proofs.lemmas.Option.{slice_get-get_or, slice_get_read}
use Rattle.mk_model.specs.declared.query.Count.{Count}
use Rattle.mk_logic.proofs.AskedLemmas.{meets_asked, meets_unasked}
use Rattle.mk_logic.proofs.allowing.meets_range.Goals as goal

-- no sites
abbrev none_counted : Count
none_counted = record { sites = 0; filled = 0 }

pub returns-then-not-is_asked : goal.returns-then-not-is_asked
returns-then-not-is_asked c =
    let not = rw c.groups-groups.ensures.list at (sym (c.if-not-is_asked.ensures)) in
    let meets = meets_unasked c.args.query.now c.args.counts.now (c.args.i + 1) not in
    (λ _. meets, λ _. cc)

pub returns : goal.returns
returns c =
    let list = c.groups-groups.ensures.list in
    let asked = rw list at (sym (c.if-not-is_asked.ensures)) in
    let all = c.groups-groups.ensures.kept.few_members.all_groups in
    let within : c.args.i < length c.args.query.now.groups = omega (arith, c.requires.within, all) in
    let here = rw list at c.index-groups-i.is in
    let group = slice_get_read c.args.query.now.groups (length c.args.query.now.groups) c.args.i c.index-groups-i.result refl within here in
    let count = slice_get-get_or c.args.counts.now c.args.i none_counted (omega (arith, c.requires.within, c.requires.all)) in
    let holds = rw (list, sym here) at c.holds.ensures in
    meets_asked c.args.query.now c.args.counts.now c.args.i c.index-groups-i.result
    (get_or c.args.counts.now c.args.i none_counted) c.holds.result group count
    (omega (arith, c.if-sites-eq0.false)) asked holds

use Rattle.std.proofs.Common.{◌<◌, ◌+◌, get_or, length, refl, sym, ◌∙◌, arith}
use Rattle.std.proofs.lemmas.Bool.Decides.{nat_tests}
use Rattle.std.proofs.lemmas.Option.{slice_get-get_or, slice_get_read}
use Rattle.mk_model.specs.declared.query.Count.{Count}
use Rattle.mk_logic.specs.Counts.{filled_at, sites_at}
use Rattle.mk_logic.proofs.ForCallers.{asked_found, filled_is, group_at, sites_is}
use Rattle.mk_choice.specs.Ahead.{open_sites}
use Rattle.mk_choice.specs.Bounds.{Misses, bound_in, most_filled}
use Rattle.mk_choice.proofs.LostLemmas.{lost}
use Rattle.mk_choice.proofs.pruning.is_lost.Goals as goal

-- what is read behind the end
abbrev no_sites : Count
no_sites = record { sites = 0; filled = 0 }

pub returns : goal.returns
returns c = λ asked most slots bounds known ahead.
    let list = c.groups-groups.ensures.list in
    let within : c.args.i < length c.args.query.now.groups = omega (arith, c.requires.within, c.groups-groups.ensures.kept.few_members.all_groups) in
    let here = rw list at c.index-groups-i.is in
    let group = slice_get_read c.args.query.now.groups (length c.args.query.now.groups) c.args.i c.index-groups-i.result refl within here in
    let count = slice_get-get_or c.args.counts.now c.args.i no_sites (omega (arith, c.requires.within, c.requires.counts.all)) in
    let sites = sites_is c.args.query.now c.args.counts.now c.args.i (get_or c.args.counts.now c.args.i no_sites) count in
    let filled = filled_is c.args.query.now c.args.counts.now c.args.i (get_or c.args.counts.now c.args.i no_sites) count in
    let opens = ahead.sites c.args.i c.requires.within in
    let stands : 0 < sites_at c.args.counts.now (c.args.i + 1) + open_sites slots (c.args.i + 1) =
    (let test = sym (c.if-not-stands.ensures) in grind (arith, nat_tests, sites, opens)) in
    let missed : Misses c.index-groups-i.result.range (filled_at c.args.counts.now (c.args.i + 1)) (most_filled (bound_in most) slots (c.args.i + 1)) =
    rw (filled, sym (ahead.filled c.args.i c.requires.within)) (rw (list, sym here) at (c.if-not-misses.ensures refl)) in
    lost c.args.query.now c.groups-groups.ensures.kept c.args.counts.now slots known (c.args.i + 1) c.index-groups-i.result
    (group_at c.args.query.now c.args.counts.now c.args.i c.index-groups-i.result group) stands
    (asked_found c.args.query.now c.args.counts.now (c.args.i + 1) (rw list at (sym c.is_asked.ensures ∙ asked))) most bounds (omega (arith, c.requires.within)) missed

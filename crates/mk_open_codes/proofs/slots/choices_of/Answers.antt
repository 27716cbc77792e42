use Rattle.std.proofs.Common.{◌<◌, length}
use Rattle.mk_model.specs.Queries.{slots_of}
use Rattle.mk_layout.proofs.LaidLemmas.{slot_at}
use Rattle.mk_open_codes.proofs.ForCallers.{root_there}
use Rattle.mk_open_codes.proofs.PassingLemmas.{labels_at}
use Rattle.mk_open_codes.proofs.slots.choices_of.Goals as goal

pub member_count-requires : goal.member_count-requires
member_count-requires c =
    let query = c.args.query.now in
    let kept = c.slots_of_root.ensures.kept in
    let list = c.slots_of_root.ensures.list in
    let found = c.in-Some.ensures.lookup in
    let below : c.args.slot < length (slots_of query 0) = rw list at found.3.0 in
    let slot = slot_at c.slots_of_root.result.now (slots_of query 0) c.args.slot c.in-Some.site.now list found.3.0 found.1 in
    rw slot (labels_at query kept 0 (root_there query kept) c.args.slot below)

use Rattle.std.proofs.Common.{◌≡◌, ◌<◌, length, sym, arith}
use Rattle.mk_model.specs.Queries.{slots_of}
use Rattle.mk_choice.proofs.SlotLemmas.{slots_at, slots_known}
use Rattle.mk_choice.proofs.numbers.slots_of.Goals as goal

pub returns-clause-known : goal.returns-clause-known
returns-clause-known c =
    let list = c.templates-templates.ensures.list in
    let here = rw list at c.index-templates-t.is in
    let below : c.args.t < length c.args.query.now.templates = omega (arith, rw list at c.if-t-templates.false) in
    let is : c.slots.result.now ≡ slots_of c.args.query.now c.args.t = rw (slots_at c.args.query.now c.args.t c.index-templates-t.result below, sym here) c.slots.ensures in
    rw is (slots_known c.args.query.now c.templates-templates.ensures.kept c.args.t)

use Rattle.std.proofs.Common.{refl, rules, sym, ◌∙◌}
use Rattle.mk_edits.specs.Loading.{IsReplace, IsTurnOfReplace, ReplacesHeld}
use Rattle.mk_found.proofs.FindingsLemmas.{seek_failed}
use Rattle.mk_edits.proofs.loading.replace_found.Goals as goal

pub returns-in-Err-clause-sought : goal.returns-in-Err-clause-sought
returns-in-Err-clause-sought g c =
    let records = c.args.library.now.records in
    seek_failed (IsReplace (g.F.Files.look_up c.args.files.now) records c.args.library.now.next_record c.args.number c.args.name.now)
    (IsTurnOfReplace records c.args.number c.args.name.now) c.args.name.now
    _ _ c.in-Err.fail c.from.result c.read_within.result (record { held = search rules; is = refl }) c.in-Err.is c.read_within.ensures.counted c.from.ensures

pub returns-clause-sought : goal.returns-clause-sought
returns-clause-sought g c = (
  ReplacesHeld (sym c.is_held.ensures ∙ c.if-not-is_held.false) (c.in_ok-replace_text.ensures.comes (g.F.Files.look_up c.args.files.now) c.args.name.now c.in-Ok.ensures.found),
  c.in-Ok.ensures.counted,
)

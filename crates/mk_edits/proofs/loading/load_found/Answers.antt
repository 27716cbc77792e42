use Rattle.std.proofs.Common.{refl}
use Rattle.mk_edits.specs.Loading.{IsLoad}
use Rattle.mk_found.specs.Files.{IsTurnOf}
use Rattle.mk_found.proofs.FindingsLemmas.{seek_failed}
use Rattle.mk_edits.proofs.loading.load_found.Goals as goal

pub returns-in-Err-clause-sought : goal.returns-in-Err-clause-sought
returns-in-Err-clause-sought g c =
    seek_failed (IsLoad (g.F.Files.look_up c.args.files.now) c.args.library.now.records c.args.library.now.next_record c.args.name.now) (IsTurnOf c.args.name.now) c.args.name.now
    _ _ c.in-Err.fail c.from.result c.read_within.result refl c.in-Err.is c.read_within.ensures.counted c.from.ensures

pub returns-clause-sought : goal.returns-clause-sought
returns-clause-sought g c =
    (c.in_ok-load_text.ensures.comes (g.F.Files.look_up c.args.files.now) c.args.name.now c.in-Ok.ensures.found, c.in-Ok.ensures.counted)

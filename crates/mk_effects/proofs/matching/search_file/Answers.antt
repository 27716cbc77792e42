use Rattle.std.proofs.Common.{refl}
use Rattle.mk_effects.specs.Match.{IsSearchOfFile}
use Rattle.mk_found.specs.Files.{IsTurnOf}
use Rattle.mk_found.proofs.FindingsLemmas.{seek_failed}
use Rattle.mk_effects.proofs.matching.search_file.Goals as goal

pub returns-in-Err-clause-sought : goal.returns-in-Err-clause-sought
returns-in-Err-clause-sought g c =
    seek_failed (IsSearchOfFile c.args.wanted.now (g.F.Files.look_up c.args.files.now) c.args.molecules.now) (IsTurnOf c.args.molecules.now) c.args.molecules.now
    _ _ c.in-Err.fail c.from.result c.read_within.result refl c.in-Err.is c.read_within.ensures.counted c.from.ensures

pub returns-clause-sought : goal.returns-clause-sought
returns-clause-sought g c =
    (c.in_ok-search_text.ensures (g.F.Files.look_up c.args.files.now) c.args.molecules.now c.in-Ok.ensures.found, c.in-Ok.ensures.counted)

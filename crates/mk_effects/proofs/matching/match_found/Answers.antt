use Rattle.std.proofs.Common.{refl}
use Rattle.mk_effects.specs.Match.{IsMatch, IsTurnOfMatch, QueryRefused, TurnOfQuery}
use Rattle.mk_effects.proofs.MatchLemmas.{matched, misses_both}
use Rattle.mk_found.proofs.QueryFilesLemmas.{query_held_by}
use Rattle.mk_found.proofs.FindingsLemmas.{seek_failed}
use Rattle.mk_effects.proofs.matching.match_found.Goals as goal

pub returns-in-Err-clause-sought : goal.returns-in-Err-clause-sought
returns-in-Err-clause-sought g c =
    seek_failed (IsMatch (g.F.Files.look_up c.args.files.now) c.args.query.now c.args.molecules.now)
    (IsTurnOfMatch (g.F.Files.look_up c.args.files.now) c.args.query.now c.args.molecules.now) c.args.query.now
    _ _ c.in-Err.fail c.from.result c.read_within.result (TurnOfQuery refl) c.in-Err.is c.read_within.ensures.counted c.from.ensures

pub returns-in-Refused-clause-sought : goal.returns-in-Refused-clause-sought
returns-in-Refused-clause-sought g c =
    let held = query_held_by (g.F.Files.look_up c.args.files.now) c.args.query.now c.in-Ok.bytes c.in_ok-held.held c.in-Ok.ensures.found c.in_ok-held.ensures in
    (QueryRefused c.in-Refused.line (rw c.in-Refused.is at held) refl, c.in-Ok.ensures.counted)

pub returns-in-Query-clause-sought : goal.returns-in-Query-clause-sought
returns-in-Query-clause-sought g c =
    let held = query_held_by (g.F.Files.look_up c.args.files.now) c.args.query.now c.in-Ok.bytes c.in_ok-held.held c.in-Ok.ensures.found c.in_ok-held.ensures in
    matched (g.F.Files.look_up c.args.files.now) c.args.query.now c.args.molecules.now c.in-Query.wanted _ _ _ c.search_file.result (rw c.in-Query.is at held) c.in-Ok.ensures.counted
    (rw c.in-Ok.ensures.same_files at c.search_file.ensures.sought)

pub returns-in-Query-clause-missed : goal.returns-in-Query-clause-missed
returns-in-Query-clause-missed g c =
    let held = query_held_by (g.F.Files.look_up c.args.files.now) c.args.query.now c.in-Ok.bytes c.in_ok-held.held c.in-Ok.ensures.found c.in_ok-held.ensures in
    misses_both (g.F.Files.look_up c.args.files.now) c.args.query.now c.args.molecules.now c.in-Query.wanted _ _ _ (rw c.in-Query.is at held) c.in-Ok.ensures.never_falls c.in-Ok.ensures.absent
    (rw c.in-Ok.ensures.same_files at c.search_file.ensures.missed)

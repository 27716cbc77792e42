use Rattle.std.proofs.Common.{subst, sym}
use Rattle.mk_expansions.specs.Kept.{AreKept, KeptView}
use Rattle.mk_expansions.proofs.KeptLemmas.{put}
use Rattle.mk_expansions.proofs.kept.keep.Goals as goal

pub returns-in_err-insert : goal.returns-in_err-insert
returns-in_err-insert c = λ query are is.
    let all = subst (λ (k : KeptView). AreKept query k) (sym c.kept.view_is) (c.make_room.ensures query are) in
    record { young = rw c.in_err-insert.ensures.err all.young; elder = all.elder }

pub returns : goal.returns
returns c = λ query are is.
    let all = subst (λ (k : KeptView). AreKept query k) (sym c.kept.view_is) (c.make_room.ensures query are) in
    let young = put query c.kept.inside.young.entries c.args.expansion.code (record { graph = c.args.expansion.graph; asked = c.args.expansion.asked; need = c.args.expansion.need })
    all.young (record { is = is.is; asked = is.asked; need = is.need }) in
    record { young = rw c.in_ok-insert.ensures.entries young; elder = all.elder }

use Rattle.std.proofs.Common.{subst, sym}
use Rattle.mk_expansions.specs.Kept.{AreKept, KeptView}
use Rattle.mk_expansions.proofs.KeptLemmas.{none_kept}
use Rattle.mk_expansions.proofs.kept.Kept.make_room.Goals as goal

pub returns : goal.returns
returns c = λ query are.
    let all = subst (λ (k : KeptView). AreKept query k) (sym c.self.view_is) are in
    record {
      young = none_kept query c.clear.new.self.entries c.clear.ensures.empty;
      elder = rw c.swap.ensures.y_after all.young;
    }

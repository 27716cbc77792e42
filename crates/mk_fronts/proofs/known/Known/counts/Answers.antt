use Rattle.std.proofs.Common.{subst, sym}
use Rattle.mk_fronts.specs.Fronts.{IsKnownOf}
use Rattle.mk_fronts.proofs.known.Known.counts.Goals as goal

pub returns-clause-known : goal.returns-clause-known
returns-clause-known c =
    let known = subst (IsKnownOf c.args.mol.now) (sym c.self.view_is) c.requires in
    record { there = c.counts_there-there.ensures; told = known.told }

use Rattle.mk_sqlite.proofs.RestartLemmas.{settled_is_found, crash_is_found, crash_stays}
use Rattle.mk_sqlite.proofs.laws.files_are_found_again.Goals as goal

pub returns-clause-settled : goal.returns-clause-settled
returns-clause-settled g c = settled_is_found {g = g.D.Disk} {h = g.E.Disk} g.met.D.Disk.seen_may_stay

pub returns-clause-crash : goal.returns-clause-crash
returns-clause-crash g c = crash_is_found {g = g.D.Disk} {h = g.E.Disk}

pub returns-clause-stays : goal.returns-clause-stays
returns-clause-stays g c = crash_stays {g = g.D.Disk}

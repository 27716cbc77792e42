use Rattle.mk_laws.proofs.RestartsLemmas.{runs_of_one_file}
use Rattle.mk_laws.proofs.restarts.runs_of_one_file.Goals as goal

pub returns : goal.returns
returns g c = runs_of_one_file g.D.Disk g.E.Disk c.runs_keep_reading.ensures c.two_scripts.ensures c.files_are_found_again.ensures.settled

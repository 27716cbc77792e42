use Rattle.mk_rtable.proofs.OnLiterals.{of_two_sites}
use Rattle.mk_trials.proofs.table_tests.members_of_2_1.Goals as goal

pub members_of-requires : goal.members_of-requires
members_of-requires c = rw c.in_ok-query.ensures (record { code = of_two_sites })

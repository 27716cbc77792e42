use Rattle.mk_trials.proofs.search_tests.rows_of_records.Given as goal

abbrev pub ghosts-firsts : goal.ghosts-firsts
ghosts-firsts g a = record { name = a.blank.name; parts = a.blank.parts }

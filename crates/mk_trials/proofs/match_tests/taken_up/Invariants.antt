use Rattle.mk_trials.proofs.match_tests.taken_up.Given as goal

abbrev pub ghosts-place_at_end : goal.ghosts-place_at_end
ghosts-place_at_end g a = record { name = a.blank.name; parts = a.blank.parts }

use Rattle.mk_search.proofs.records.next_record.Given as goal

abbrev pub ghosts-candidate_from : goal.ghosts-candidate_from
ghosts-candidate_from a = record { name = a.blank.name; parts = a.blank.parts }

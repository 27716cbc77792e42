use Rattle.mk_search.proofs.occurrences.Occurrences.of.Goals as goal

pub fronts_and_need-requires-clause-kept : goal.fronts_and_need-requires-clause-kept
fronts_and_need-requires-clause-kept c = c.new-kept.ensures c.args.query.now

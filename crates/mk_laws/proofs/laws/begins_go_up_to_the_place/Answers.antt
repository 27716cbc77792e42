use Rattle.mk_session.proofs.StepTicksLemmas.{resumes_begin_up_to_place, searches_begin_up_to_place}
use Rattle.mk_laws.proofs.laws.begins_go_up_to_the_place.Goals as goal

pub returns-clause-search : goal.returns-clause-search
returns-clause-search c = searches_begin_up_to_place

pub returns-clause-resume : goal.returns-clause-resume
returns-clause-resume c = resumes_begin_up_to_place

use Rattle.mk_words.proofs.CommandLemmas.{commands_are_read, one_reading}
use Rattle.mk_words.proofs.laws.commands_are_read.Goals as goal

pub returns-clause-read : goal.returns-clause-read
returns-clause-read c = commands_are_read

pub returns-clause-one : goal.returns-clause-one
returns-clause-one c = one_reading

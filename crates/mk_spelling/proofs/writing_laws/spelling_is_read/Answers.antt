use Rattle.mk_spelling.proofs.TableSpellingLemmas.{is_read, no_blank_ends}
use Rattle.mk_spelling.proofs.writing_laws.spelling_is_read.Goals as goal

pub returns : goal.returns
returns c = record { read = is_read; no_blank = no_blank_ends }

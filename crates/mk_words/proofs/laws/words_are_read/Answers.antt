use Rattle.mk_words.proofs.StoreWordsLemmas.{store_is_read, words_are_read}
use Rattle.mk_words.proofs.laws.words_are_read.Goals as goal

pub returns-clause-store : goal.returns-clause-store
returns-clause-store c = store_is_read

pub returns-clause-words : goal.returns-clause-words
returns-clause-words c = words_are_read

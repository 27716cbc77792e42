use Rattle.mk_v3000.proofs.WordLemmas.{none_found, word_found, word_shorter}
use Rattle.mk_v3000.proofs.next_word.next_word.Goals as goal

pub returns-then-start-text-clause-none : goal.returns-then-start-text-clause-none
returns-then-start-text-clause-none c = none_found c.args.text.now c.first_byte-start.result c.if-start-text.true c.first_byte-start.ensures.words

pub returns-clause-some : goal.returns-clause-some
returns-clause-some c =
    let first = c.first_byte-start.ensures in
    let end = c.end_of_word-end.ensures in
    word_found c.args.text.now c.first_byte-start.result c.end_of_word-end.result first.within c.if-start-text.false first.words first.other end.order end.within end.none end.blank

pub returns-clause-shorter : goal.returns-clause-shorter
returns-clause-shorter c =
    let first = c.first_byte-start.ensures in
    let end = c.end_of_word-end.ensures in
    word_shorter c.args.text.now c.first_byte-start.result c.end_of_word-end.result first.within c.if-start-text.false first.other end.order end.within end.blank

use Rattle.std.proofs.Common.{Some, sym, ◌∙◌, map, arith}
use Rattle.std.specs.String.{string_bytes}
use Rattle.std.proofs.lemmas.List.{length-map}
use Rattle.mk_words.proofs.CommandLemmas.{can_ask_order, words_of_many}
use Rattle.mk_words.proofs.command_reading.kind_behind_store.Goals as goal

pub returns-then-words-gt-MOST_WORDS-clause-kind : goal.returns-then-words-gt-MOST_WORDS-clause-kind
returns-then-words-gt-MOST_WORDS-clause-kind c = words_of_many (map string_bytes c.args.words.now) (omega (arith, length-map c.args.words.now string_bytes))

pub returns-in-Some-clause-asks : goal.returns-in-Some-clause-asks
returns-in-Some-clause-asks c = can_ask_order c.deref.result.now (Some c.in-Some.command) (sym c.in_ok-command.ensures ∙ c.in-Some.is)

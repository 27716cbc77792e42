use Rattle.std.proofs.Common.{◌∙◌, refl, sym}
use Rattle.std.proofs.lemmas.Bool.{true≢false}
use Rattle.mk_query.specs.Compiled.{of_any, of_element}
use Rattle.mk_query.proofs.KindLemmas.{word_left}
use Rattle.mk_query.proofs.atom_kinds.plain_kind.Goals as goal

pub returns-in-Some : goal.returns-in-Some
returns-in-Some c = λ found. of_element c.in-Some.z ((c.number_of.ensures.names c.in-Some.z).0 c.in-Some.is) refl

pub returns : goal.returns
returns c = λ found.
    of_any
    (word_left c.args.symbol.now c.requires.symbol c.requires.no_list (λ z named. c.in_default.not-Some z ((c.number_of.ensures.names z).1 named))
    (λ e. true≢false (sym (c.is_word.ensures.1 e) ∙ c.if-is_word.false))
    (λ e. true≢false (sym (c.is_word-2.ensures.1 e) ∙ c.if-is_word-2.false)))
    refl

use Rattle.std.proofs.Common.{◌∙◌, sym}
use Rattle.mk_elements.proofs.TableLemmas.{by_letters-names, Names-by_letters, in_range-by_letters}
use Rattle.mk_elements.proofs.symbols.number_of.Goals as goal

pub returns-clause-names : goal.returns-clause-names
returns-clause-names c = λ z.
    (λ is. by_letters-names _ z (sym c.by_letters.ensures ∙ is), λ names. c.by_letters.ensures ∙ Names-by_letters _ z names)

pub returns-clause-in_range : goal.returns-clause-in_range
returns-clause-in_range c = in_range-by_letters _ _ c.by_letters.ensures

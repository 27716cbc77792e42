use Rattle.std.proofs.Common.{◌∙◌}
use Rattle.mk_elements.proofs.LetterLemmas.{by_letters-one, by_letters-many, by_letters-high, by_letters-two}
use Rattle.mk_elements.proofs.symbols.by_letters.Goals as goal

pub returns-then-symbol-eq1 : goal.returns-then-symbol-eq1
returns-then-symbol-eq1 c = c.number_at.ensures ∙ by_letters-one _ c.if-symbol-eq1.true

pub returns-then-symbol-ne2 : goal.returns-then-symbol-ne2
returns-then-symbol-ne2 c = by_letters-many _ c.if-symbol-eq1.false c.if-symbol-ne2.true

pub returns-then-symbol-lt97 : goal.returns-then-symbol-lt97
returns-then-symbol-lt97 c = by_letters-high _ c.if-symbol-ne2.false c.if-symbol-lt97.true

pub returns : goal.returns
returns c = c.number_at-2.ensures ∙ by_letters-two _ c.if-symbol-ne2.false c.if-symbol-lt97.false

use Rattle.mk_elements.proofs.LetterLemmas.{columns_of-one, columns_of-two}
use Rattle.mk_elements.proofs.symbols.columns_of.Goals as goal

pub returns-then-text-from-eq32 : goal.returns-then-text-from-eq32
returns-then-text-from-eq32 c = columns_of-one _ _ c.if-text-from-eq32.true

pub returns-else-text-from-eq32 : goal.returns-else-text-from-eq32
returns-else-text-from-eq32 c = columns_of-two _ _ c.if-text-from-eq32.false

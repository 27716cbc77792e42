use Rattle.std.proofs.Common.{arith}
use Rattle.std.proofs.lemmas.Bool.Decides.{nat_tests}
use Rattle.mk_elements.specs.Letters.{at_letters}
use Rattle.mk_elements.proofs.LetterLemmas.{at_letters-none, at_letters-some}
use Rattle.mk_elements.proofs.symbols.number_at.Goals as goal

pub returns-then-first-lt65 : goal.returns-then-first-lt65
unfolding at_letters
returns-then-first-lt65 c = grind (arith, nat_tests)

pub returns-then-z-eq0 : goal.returns-then-z-eq0
returns-then-z-eq0 c = at_letters-none _ _ _ (omega arith) (omega arith) (omega arith) c.entry-z.ensures c.if-z-eq0.true

pub returns-else-z-eq0 : goal.returns-else-z-eq0
returns-else-z-eq0 c = at_letters-some _ _ _ (omega arith) (omega arith) (omega arith) c.entry-z.ensures c.if-z-eq0.false

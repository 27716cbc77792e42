-- What proofs of the crates above use of this one.
--     one_element       bytes name one element
use Rattle.std.proofs.Common.{◌≡◌, ℕ, List}
use Rattle.mk_elements.specs.Symbols.{NamesElement}
use Rattle.mk_elements.proofs.TableLemmas.{Names-by_letters}

-- bytes name one element
pub one_element : (symbol : List ℕ) (y z : ℕ) → NamesElement symbol y → NamesElement symbol z → y ≡ z
one_element symbol y z p q = let e = Names-by_letters symbol y p in let f = Names-by_letters symbol z q in cc

-- Symbols that name an element.
use Rattle.std.proofs.Common.{◌≡◌, ℕ, Bool, List, Option, Some, None, refl, IsTrue}
use Rattle.std.specs.Prelude.{◌↔◌, IsSome, is_some}
use Rattle.mk_elements.specs.Symbols.{NamesElement}
use Rattle.mk_mol.specs.Checks.{IsElementSymbol}

-- where an element is found exactly where bytes name it, one is found exactly where bytes name some
pub named_from : (symbol : List ℕ) (r : Option ℕ) (b : Bool) → b ≡ is_some r → ((z : ℕ) → (r ≡ Some z) ↔ NamesElement symbol z) → IsTrue b ↔ IsElementSymbol symbol
named_from symbol None b is exact = (λ t. absurd cc, λ named. let e = (exact named.element).1 named.names in absurd cc)
named_from symbol (Some z) b is exact = (λ t. record { element = z; names = (exact z).0 refl }, λ named. is)

-- what is found is there
pub some_is : (r : Option ℕ) (z : ℕ) → r ≡ Some z → IsSome r
some_is None z e = absurd cc
some_is (Some y) z e = refl

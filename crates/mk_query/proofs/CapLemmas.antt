-- Numbers that count as 513 where they are greater.
use Rattle.std.proofs.Common.{◌≡◌, ℕ, ◌+◌, ◌≤◌, max, arith}
use Rattle.std.specs.Prelude.{IsTrue, nat_lt}
use Rattle.std.proofs.lemmas.Bool.Decides.{nat_tests}
use Rattle.mk_query.specs.RootSizes.{capped}

pub cap_left : (a b : ℕ) → capped (capped a + b) ≡ capped (a + b)
cap_left a b = omega arith

pub cap_right : (a b : ℕ) → capped (a + capped b) ≡ capped (a + b)
cap_right a b = omega arith

pub cap_both : (a b m n : ℕ) → capped a ≡ capped b → capped m ≡ capped n → capped (a + m) ≡ capped (b + n)
cap_both a b m n first second = omega (arith, first, second)

pub cap_max : (a b : ℕ) → max (capped a) (capped b) ≡ capped (max a b)
cap_max a b = omega arith

pub cap_site : (a n : ℕ) → n ≤ 2 → capped (1 + max (capped a) n) ≡ capped (1 + max a n)
cap_site a n few = omega (arith, few)

pub cap_small : (n : ℕ) → capped n ≤ 512 → n ≤ 512
cap_small n small = omega (arith, small)

-- a template's size by its own, capped, and that of its sites
pub cap_whole : (own fixed links slots sites others : ℕ) → own ≡ capped (fixed + links) → capped sites ≡ capped others → slots ≡ links + others
    → capped (own + capped sites) ≡ capped (fixed + slots)
cap_whole own fixed links slots sites others is same split = omega (arith, is, same, split)

pub plus_none : (n : ℕ) → n ≡ 0 + n
plus_none n = omega arith

-- the test of a capped number
pub test_small : (n : ℕ) → IsTrue (nat_lt n 513) → n ≤ 512
test_small n is = grind (arith, nat_tests)

pub small_tested : (n : ℕ) → n ≤ 512 → IsTrue (nat_lt n 513)
small_tested n small = grind (arith, nat_tests)

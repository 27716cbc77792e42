-- What tests joined by `&&`, `||` and `not` say of each.
use Rattle.std.proofs.Common.{◌≡◌, Bool, true, false, not, ◌&&◌, ◌||◌, refl}

-- both of two tests
pub both : (a b : Bool) → (a && b) ≡ true → (a ≡ true) × (b ≡ true)
both true b holds = (refl, holds)
both false b holds = absurd cc

-- two tests together
pub and_true : (a b : Bool) → a ≡ true → b ≡ true → (a && b) ≡ true
and_true a b first second = rw (first, second) refl

-- neither of two tests
pub neither : (a b : Bool) → (a || b) ≡ false → (a ≡ false) × (b ≡ false)
neither true b fails = absurd cc
neither false b fails = (refl, fails)

-- the first of two tests is enough
pub or_left : (a b : Bool) → a ≡ true → (a || b) ≡ true
or_left a b holds = rw holds refl

-- and so is the second
pub or_right : (a b : Bool) → b ≡ true → (a || b) ≡ true
or_right true b holds = refl
or_right false b holds = holds

-- a test that is denied
pub not_true : (b : Bool) → not b ≡ true → b ≡ false
not_true true denied = absurd cc
not_true false denied = refl

-- and one that isn't
pub not_false : (b : Bool) → not b ≡ false → b ≡ true
not_false true holds = refl
not_false false holds = absurd cc

-- What code knows that goes through indexes, and that appends properties.
use Rattle.std.proofs.Common.{◌≡◌, true, false, eq-eqb, ne_eqb, List, ◌++◌, refl, ap, ◌∙◌, append_assoc}
use Rattle.std.specs.Prelude.{ℤ, pos, negsuc}
use Rattle.mk_props.specs.declared.property.Property.{Property}
use Rattle.mk_v3000.specs.Twin.{same_number}

-- three lists one after the other
pub three_pushed : (start one two three a b c : List Property) → one ≡ start ++ a → two ≡ one ++ b → three ≡ two ++ c → three ≡ start ++ (a ++ (b ++ c))
three_pushed start one two three a b c e f g =
    g ∙ ap (λ (x : List Property). x ++ c) (f ∙ ap (λ (x : List Property). x ++ b) e) ∙ append_assoc (start ++ a) b c ∙ append_assoc start a (b ++ c)

-- ---- one number and another

-- a number is the same as itself
pub same_yes : (x : ℤ) → same_number x x ≡ true
same_yes (pos n) = eq-eqb n n refl
same_yes (negsuc n) = eq-eqb n n refl

-- and no other
pub same_no : (x y : ℤ) → (x ≡ y → ⊥) → same_number x y ≡ false
same_no (pos m) (pos n) other = ne_eqb m n (λ e. other (ap pos e))
same_no (negsuc m) (negsuc n) other = ne_eqb m n (λ e. other (ap negsuc e))
same_no (pos m) (negsuc n) other = refl
same_no (negsuc m) (pos n) other = refl

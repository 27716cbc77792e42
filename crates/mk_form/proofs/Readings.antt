-- What a reading of two parts in a row tells of each.
use Rattle.std.proofs.Common.{◌≡◌, Bool, List, refl, inl, inr}
use Rattle.std.specs.Prelude.{◌⊎◌}
use Rattle.mk_form.specs.Reading.{Reading, Took, Stop, and_then}

-- the first was read, and then the second
pub record TookBoth {L X V : Type 0} (r : Reading L X) (f : X → List L → Reading L V) (v : V) (rest : List L) : Type 0 where
  pub middle : X
  pub left : List L
  pub first : r ≡ Took middle left
  pub second : f middle left ≡ Took v rest

-- the first was read, and the second stopped
pub record StoppedLater {L X V : Type 0} (r : Reading L X) (f : X → List L → Reading L V) (named : Bool) (rest : List L) : Type 0 where
  pub middle : X
  pub left : List L
  pub first : r ≡ Took middle left
  pub second : f middle left ≡ Stop named rest

-- what was read was read by both
pub took_both : {L X V : Type 0} (r : Reading L X) (f : X → List L → Reading L V) (v : V) (rest : List L) → and_then r f ≡ Took v rest → TookBoth r f v rest
took_both (Took x mid) f v rest e = record { middle = x; left = mid; first = refl; second = e }
took_both (Stop n mid) f v rest e = absurd cc

-- a stop is that of the first, or that of the second
pub stopped : {L X V : Type 0} (r : Reading L X) (f : X → List L → Reading L V) (n : Bool) (rest : List L) → and_then r f ≡ Stop n rest → (r ≡ Stop n rest) ⊎ StoppedLater r f n rest
stopped (Took x mid) f n rest e = inr (record { middle = x; left = mid; first = refl; second = e })
stopped (Stop m mid) f n rest e = inl cc

-- two ways to go on that agree behind what was read are one
pub same_behind : {L X V : Type 0} (r : Reading L X) (f g : X → List L → Reading L V) → ((x : X) (rest : List L) → r ≡ Took x rest → f x rest ≡ g x rest) → and_then r f ≡ and_then r g
same_behind (Took x rest) f g same = same x rest refl
same_behind (Stop n rest) f g same = refl

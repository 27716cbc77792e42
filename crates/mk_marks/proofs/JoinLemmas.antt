-- The bonds of a list by their places.
--     joins_within          a bond that joins something is in the list
--     slice_get-at          what stands at a place, as `slice_get` has it
--     joins_ends            a bond in the list joins its ends
--     get_or-from_get       what `slice_get` gives at a place, at any default
use Rattle.std.proofs.Common.{◌≡◌, ◌<◌, ℕ, zero, suc, List, [], ◌∷◌, Some, refl, inl, arith, length, get_or}
use Rattle.std.specs.Prelude.{slice_get}
use Rattle.mk_model.specs.declared.edge.Edge.{Edge}
use Rattle.mk_model.specs.Edges.{Joins}

-- a bond that joins something is in the list
pub joins_within : (bonds : List Edge) (b x y : ℕ) → Joins bonds b x y → b < length bonds
joins_within bonds b x y j = within bonds b j.edge j.at
  where
    within : (xs : List Edge) (k : ℕ) (e : Edge) → slice_get xs k ≡ Some e → k < length xs
    within [] k e is = cc
    within (x ∷ xs) zero e is = omega arith
    within (x ∷ xs) (suc k) e is = omega (arith, within xs k e is)

-- what stands at a place, as `slice_get` has it
pub slice_get-at : (xs : List Edge) (k : ℕ) (d : Edge) → k < length xs → slice_get xs k ≡ Some (get_or xs k d)
slice_get-at [] k d below = absurd (omega arith)
slice_get-at (x ∷ xs) zero d below = refl
slice_get-at (x ∷ xs) (suc k) d below = slice_get-at xs k d (omega arith)

-- a bond in the list joins its ends
pub joins_ends : (bonds : List Edge) (b : ℕ) (d : Edge) → b < length bonds → Joins bonds b (get_or bonds b d).first (get_or bonds b d).second
joins_ends bonds b d below = record { edge = get_or bonds b d; at = slice_get-at bonds b d below; ends = inl (refl, refl) }

-- what `slice_get` gives at a place, at any default
pub get_or-from_get : (xs : List Edge) (k : ℕ) (d e : Edge) → slice_get xs k ≡ Some e → get_or xs k d ≡ e
get_or-from_get [] k d e is = cc
get_or-from_get (x ∷ xs) zero d e is = cc
get_or-from_get (x ∷ xs) (suc k) d e is = get_or-from_get xs k d e is

-- For the code: the bits of all paths, by their middle bonds.
--     end_at bonds number n                the other end of the bond of this number, as seen from
--                                          atom n
--     bits_of_atom .. bits_of_atoms        those of atoms alone
--     bits_around, bits_before, bits_behind, bits_of_bond     those of the paths around a bond
--     bits_of_bonds                        those around each of the first n bonds
--     IsPair shown b c y z                 atoms b and c are named, and y and z are their elements
--     Adds list old new                    the bits in the list are set beside the old ones
use Rattle.std.specs.Prelude.{◌≡◌, ◌≢◌, ◌<◌, ◌≤◌, ◌-◌, ◌==◌, ◌&&◌, ◌||◌, not, nat_le, ℕ, zero, suc, Bool, List, [], ◌∷◌, ◌++◌, Option, Some, None, length, slice_get, if◌then◌else◌}
use Rattle.std.specs.List.{list_any, flat_map}
use Rattle.mk_model.specs.declared.edge.Edge.{Edge}
use Rattle.mk_model.specs.Edges.{numbers_at, other_end}
use Rattle.mk_model.specs.Screens.{Shown, element_at, has_bit, path_bit}

-- the other end of the bond of this number, as seen from an atom
abbrev pub end_at : List Edge → ℕ → ℕ → ℕ
end_at bonds number n = end_of (slice_get bonds (number - 1))
  where
    end_of : Option Edge → ℕ
    end_of None = 0
    end_of (Some edge) = other_end n edge

-- atom x is of one element, and that isn't hydrogen
abbrev pub is_named : Shown → ℕ → Bool
is_named shown x = nat_le 1 x && nat_le 2 (element_at shown.elements x)

-- two numbers differ
abbrev pub differ : ℕ → ℕ → Bool
differ x y = not (x == y)

-- the bit of an atom
unfoldable pub bits_of_atom : Shown → ℕ → List ℕ
bits_of_atom shown a = if is_named shown a then path_bit shown (a ∷ []) ∷ [] else []

-- those of the first n atoms
unfoldable pub bits_of_atoms : Shown → ℕ → List ℕ
bits_of_atoms shown zero = []
bits_of_atoms shown (suc n) = bits_of_atoms shown n ++ bits_of_atom shown (suc n)

-- the bits of the path of a, b, c and d, and of its reverse
unfoldable pub bits_around : Shown → ℕ → ℕ → ℕ → ℕ → List ℕ
bits_around shown a b c d =
    if is_named shown d && (differ d a && (differ d b && differ d c)) then
    path_bit shown (a ∷ b ∷ c ∷ d ∷ []) ∷ path_bit shown (d ∷ c ∷ b ∷ a ∷ []) ∷ []
    else []

-- those of the paths that begin with a, b and c, and of their reverses
unfoldable pub bits_before : Shown → ℕ → ℕ → ℕ → List ℕ
bits_before shown a b c =
    if is_named shown a && (differ a b && differ a c) then
    path_bit shown (a ∷ b ∷ c ∷ []) ∷ path_bit shown (c ∷ b ∷ a ∷ [])
    ∷ flat_map (λ number. bits_around shown a b c (end_at shown.bonds number c)) (numbers_at shown.bonds c)
    else []

-- those of the paths with a neighbour of b in front
unfoldable pub bits_all_before : Shown → ℕ → ℕ → List ℕ
bits_all_before shown b c = flat_map (λ number. bits_before shown (end_at shown.bonds number b) b c) (numbers_at shown.bonds b)

-- those of the path of b, c and d, and of its reverse
unfoldable pub bits_behind : Shown → ℕ → ℕ → ℕ → List ℕ
bits_behind shown b c d =
    if is_named shown d && (differ d b && differ d c) then
    path_bit shown (b ∷ c ∷ d ∷ []) ∷ path_bit shown (d ∷ c ∷ b ∷ []) ∷ []
    else []

-- those of the paths with a neighbour of c at the end
unfoldable pub bits_all_behind : Shown → ℕ → ℕ → List ℕ
bits_all_behind shown b c = flat_map (λ number. bits_behind shown b c (end_at shown.bonds number c)) (numbers_at shown.bonds c)

-- those of the paths around a bond between b and c
unfoldable pub bits_of_bond : Shown → ℕ → ℕ → List ℕ
bits_of_bond shown b c =
    if is_named shown b && (is_named shown c && differ b c) then
    path_bit shown (b ∷ c ∷ []) ∷ path_bit shown (c ∷ b ∷ []) ∷ (bits_all_before shown b c ++ bits_all_behind shown b c)
    else []

-- those around a bond, where there is one
abbrev pub bits_of_edge : Shown → Option Edge → List ℕ
bits_of_edge shown None = []
bits_of_edge shown (Some edge) = bits_of_bond shown edge.first edge.second

-- those around each of the first n bonds
unfoldable pub bits_of_bonds : Shown → ℕ → List ℕ
bits_of_bonds shown zero = []
bits_of_bonds shown (suc n) = bits_of_bonds shown n ++ bits_of_edge shown (slice_get shown.bonds n)

-- atoms b and c are two, each of one element other than hydrogen, and these are their elements
pub record IsPair (shown : Shown) (b c y z : ℕ) : Type 0 where
  pub apart : b ≢ c
  pub first : y ≡ element_at shown.elements b
  pub second : z ≡ element_at shown.elements c
  pub few : (y ≤ 118) × (z ≤ 118)

-- the bits in the list are set, and those that were
pub record Adds (list old new : List ℕ) : Type 0 where
  pub size : length new ≡ length old
  pub bits : (b : ℕ) → b < 512 → has_bit new b ≡ (has_bit old b || list_any (λ c. c == b) list)
